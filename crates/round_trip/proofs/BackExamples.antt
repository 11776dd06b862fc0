-- Back words, worked out by hand.
use Rattle.std.proofs.Common.{◌≡◌, ℕ, ℤ, List, [], ◌∷◌, Option, Some, None, pos, negsuc, refl}
use Rattle.std.specs.Prelude.{codes}
use Rattle.std.specs.Fmt.{digits}
use Rattle.asc_grid.specs.declared.grid.Asc.{Asc}
use Rattle.tool_words.specs.Words.{Text}
use Rattle.round_trip.specs.BackWords.{back_words}

-- three columns and two rows from the corner 0 0, cells of 1, no nodata value
plain_grid : Asc ℤ
plain_grid = record {
  frame = record { ncols = 3; nrows = 2; xll = pos 0; yll = pos 0; cell = pos 10000000000 };
  nodata = None;
  cells = record { ncols = 3; nrows = 2; rows = (pos 0 ∷ pos 0 ∷ pos 1 ∷ []) ∷ (pos 1 ∷ pos 1 ∷ pos 1 ∷ []) ∷ [] };
}

plain_words : back_words (codes "DN") plain_grid (codes "layer.csv") (codes "back.asc")
    ≡ codes "gdal_rasterize" ∷ codes "-a" ∷ codes "DN" ∷ codes "-te" ∷ codes "0" ∷ codes "0" ∷ codes "3" ∷ codes "2"
    ∷ codes "-ts" ∷ codes "3" ∷ codes "2" ∷ codes "-init" ∷ codes "0" ∷ codes "layer.csv" ∷ codes "back.asc" ∷ []
unfolding plain_grid digits
plain_words = refl

-- two columns and one row from the corner 0.5 -1.25, cells of 0.1, nodata value -9
nodata_grid : Asc ℤ
nodata_grid = record {
  frame = record { ncols = 2; nrows = 1; xll = pos 5000000000; yll = negsuc 12499999999; cell = pos 1000000000 };
  nodata = Some (negsuc 8);
  cells = record { ncols = 2; nrows = 1; rows = (negsuc 8 ∷ pos 7 ∷ []) ∷ [] };
}

nodata_words_are : back_words (codes "-f") nodata_grid (codes "p") (codes "o")
    ≡ codes "gdal_rasterize" ∷ codes "-a" ∷ codes "-f" ∷ codes "-te" ∷ codes "0.5" ∷ codes "-1.25" ∷ codes "0.7" ∷ codes "-1.15"
    ∷ codes "-ts" ∷ codes "2" ∷ codes "1" ∷ codes "-init" ∷ codes "-9" ∷ codes "-a_nodata" ∷ codes "-9" ∷ codes "p" ∷ codes "o" ∷ []
unfolding nodata_grid digits
nodata_words_are = refl
