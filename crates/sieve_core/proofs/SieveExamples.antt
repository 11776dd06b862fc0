-- Worked grids: chains and sieved grids. A list of targets names for each component the one whose value it takes.
use Rattle.std.proofs.Common.{◌≡◌, ℕ, List, [], ◌∷◌, Option, Some, None, refl, arith, lit<}
use Rattle.cell_base.specs.Raster.{Raster}
use Rattle.cell_base.specs.Steps.{four, eight}
use Rattle.region_label.specs.Labelling.{RegionTable}
use Rattle.sieve_core.specs.Sieve.{IsLargest, IsNextTo, TakesFrom, TakesValues}
use Rattle.sieve_core.proofs.SieveLemmas.{one_largest}
use Rattle.sieve_core.proofs.NeighbourDeciders.{is_alone_sound, is_largest_sound}
use Rattle.cell_base.proofs.RasterDeciders.{is_raster_sound}
use Rattle.sieve_core.proofs.SieveDeciders.{takes_values_by}
use Rattle.sieve_core.proofs.TargetLemmas.{none_where_small, targets_by}

abbrev one_row : {T : Type 0} → ℕ → List T → Raster T
one_row n row = record { ncols = n; nrows = 1; rows = row ∷ [] }

abbrev three_rows : {T : Type 0} → List T → List T → List T → Raster T
three_rows a b c = record { ncols = 3; nrows = 3; rows = a ∷ b ∷ c ∷ [] }

-- 1 2 2 3 3 3 at 3: the one takes the value of the threes, by way of the twos

abbrev rising : RegionTable
rising = record {
  numbers = one_row 6 (Some 0 ∷ Some 1 ∷ Some 1 ∷ Some 2 ∷ Some 2 ∷ Some 2 ∷ []);
  firsts = (0, 0) ∷ (0, 1) ∷ (0, 3) ∷ [];
  sizes = 1 ∷ 2 ∷ 3 ∷ [];
}

abbrev rising_cells : Raster ℕ
rising_cells = one_row 6 (1 ∷ 2 ∷ 2 ∷ 3 ∷ 3 ∷ 3 ∷ [])

one_to_twos : IsLargest four rising 0 1
one_to_twos = is_largest_sound four rising 0 1 (0, 0) (0, 1) (is_raster_sound rising.numbers refl) refl

twos_to_threes : IsLargest four rising 1 2
twos_to_threes = is_largest_sound four rising 1 2 (0, 2) (0, 3) (is_raster_sound rising.numbers refl) refl

one_takes_threes : TakesFrom four rising 3 0 2
one_takes_threes = (1 ∷ 2 ∷ [], ((lit< tt, one_to_twos), ((lit< tt, twos_to_threes), refl)), lit< tt, omega arith)

twos_take_threes : TakesFrom four rising 3 1 2
twos_take_threes = (2 ∷ [], ((lit< tt, twos_to_threes), refl), lit< tt, omega arith)

abbrev all_threes : Raster ℕ
all_threes = one_row 6 (3 ∷ 3 ∷ 3 ∷ 3 ∷ 3 ∷ 3 ∷ [])

rising_sieved : TakesValues four rising 3 rising_cells all_threes
rising_sieved = takes_values_by four rising 3 (Some 2 ∷ Some 2 ∷ Some 2 ∷ []) rising_cells all_threes (is_raster_sound rising.numbers refl) (is_raster_sound rising_cells refl) (is_raster_sound all_threes refl) refl refl refl refl (targets_by four rising 3 _ (one_takes_threes, (twos_take_threes, (([], refl, lit< tt, omega arith), tt)))) refl

-- at 0 all stay
rising_unsieved : TakesValues four rising 0 rising_cells rising_cells
rising_unsieved = takes_values_by four rising 0 (Some 0 ∷ Some 1 ∷ Some 2 ∷ []) rising_cells rising_cells (is_raster_sound rising.numbers refl) (is_raster_sound rising_cells refl) (is_raster_sound rising_cells refl) refl refl refl refl (targets_by four rising 0 _ (([], refl, lit< tt, omega arith), (([], refl, lit< tt, omega arith), (([], refl, lit< tt, omega arith), tt)))) refl

-- without the chain the one would take the value of the twos, and that isn't the sieved grid
no_chain : ¬ TakesValues four rising 3 rising_cells (one_row 6 (2 ∷ 3 ∷ 3 ∷ 3 ∷ 3 ∷ 3 ∷ []))
no_chain takes =
    let value = takes.taken (0, 0) 0 2 refl one_takes_threes in
    let first : (0, 3) ≡ value.0 = cc in
    let here : ◌≡◌ {A = Option ℕ} (Some 3) (Some 2) = rw (← first) at value.2 in
    let numbers : ◌≡◌ {A = ℕ} 3 2 = cc in
    omega (arith, numbers)

-- 1 2 at 2: the chain goes to and fro, and both stay

abbrev pair : RegionTable
pair = record { numbers = one_row 2 (Some 0 ∷ Some 1 ∷ []); firsts = (0, 0) ∷ (0, 1) ∷ []; sizes = 1 ∷ 1 ∷ [] }

abbrev pair_cells : Raster ℕ
pair_cells = one_row 2 (1 ∷ 2 ∷ [])

to : IsLargest four pair 0 1
to = is_largest_sound four pair 0 1 (0, 0) (0, 1) (is_raster_sound pair.numbers refl) refl

and_fro : IsLargest four pair 1 0
and_fro = is_largest_sound four pair 1 0 (0, 1) (0, 0) (is_raster_sound pair.numbers refl) refl

pair_sieved : TakesValues four pair 2 pair_cells pair_cells
pair_sieved = takes_values_by four pair 2 (None ∷ None ∷ []) pair_cells pair_cells (is_raster_sound pair.numbers refl) (is_raster_sound pair_cells refl) (is_raster_sound pair_cells refl) refl refl refl refl (targets_by four pair 2 _ (none_where_small four pair 2 (lit< tt) refl 0, (none_where_small four pair 2 (lit< tt) refl 1, tt))) refl

-- 5 5 7 6 6 at 2: of two neighbours as large the one with the lower number

abbrev tied : RegionTable
tied = record {
  numbers = one_row 5 (Some 0 ∷ Some 0 ∷ Some 1 ∷ Some 2 ∷ Some 2 ∷ []);
  firsts = (0, 0) ∷ (0, 2) ∷ (0, 3) ∷ [];
  sizes = 2 ∷ 1 ∷ 2 ∷ [];
}

abbrev tied_cells : Raster ℕ
tied_cells = one_row 5 (5 ∷ 5 ∷ 7 ∷ 6 ∷ 6 ∷ [])

seven_to_fives : IsLargest four tied 1 0
seven_to_fives = is_largest_sound four tied 1 0 (0, 2) (0, 1) (is_raster_sound tied.numbers refl) refl

not_to_sixes : ¬ IsLargest four tied 1 2
not_to_sixes largest =
    let same = one_largest four tied 1 2 0 largest seven_to_fives in
    omega (arith, same)

abbrev tied_result : Raster ℕ
tied_result = one_row 5 (5 ∷ 5 ∷ 5 ∷ 6 ∷ 6 ∷ [])

tied_sieved : TakesValues four tied 2 tied_cells tied_result
tied_sieved = takes_values_by four tied 2 (Some 0 ∷ Some 0 ∷ Some 2 ∷ []) tied_cells tied_result (is_raster_sound tied.numbers refl) (is_raster_sound tied_cells refl) (is_raster_sound tied_result refl) refl refl refl refl (targets_by four tied 2 _ (([], refl, lit< tt, omega arith), ((0 ∷ [], ((lit< tt, seven_to_fives), refl), lit< tt, omega arith), (([], refl, lit< tt, omega arith), tt)))) refl

-- 1 x 2 at 2, where x isn't valid: no neighbours, and all stay

abbrev gap : RegionTable
gap = record { numbers = one_row 3 (Some 0 ∷ None ∷ Some 1 ∷ []); firsts = (0, 0) ∷ (0, 2) ∷ []; sizes = 1 ∷ 1 ∷ [] }

abbrev gap_cells : Raster ℕ
gap_cells = one_row 3 (1 ∷ 9 ∷ 2 ∷ [])

alone : (j : ℕ) → ¬ IsNextTo eight gap 0 j
alone = is_alone_sound eight gap 0 (is_raster_sound gap.numbers refl) refl

gap_sieved : TakesValues four gap 2 gap_cells gap_cells
gap_sieved = takes_values_by four gap 2 (None ∷ None ∷ []) gap_cells gap_cells (is_raster_sound gap.numbers refl) (is_raster_sound gap_cells refl) (is_raster_sound gap_cells refl) refl refl refl refl (targets_by four gap 2 _ (none_where_small four gap 2 (lit< tt) refl 0, (none_where_small four gap 2 (lit< tt) refl 1, tt))) refl

-- 1 2 3 3 at 2: sizes are those of the input, so the one goes by way of the two

abbrev steps : RegionTable
steps = record {
  numbers = one_row 4 (Some 0 ∷ Some 1 ∷ Some 2 ∷ Some 2 ∷ []);
  firsts = (0, 0) ∷ (0, 1) ∷ (0, 2) ∷ [];
  sizes = 1 ∷ 1 ∷ 2 ∷ [];
}

abbrev steps_cells : Raster ℕ
steps_cells = one_row 4 (1 ∷ 2 ∷ 3 ∷ 3 ∷ [])

step_one : IsLargest four steps 0 1
step_one = is_largest_sound four steps 0 1 (0, 0) (0, 1) (is_raster_sound steps.numbers refl) refl

step_two : IsLargest four steps 1 2
step_two = is_largest_sound four steps 1 2 (0, 1) (0, 2) (is_raster_sound steps.numbers refl) refl

abbrev steps_result : Raster ℕ
steps_result = one_row 4 (3 ∷ 3 ∷ 3 ∷ 3 ∷ [])

steps_sieved : TakesValues four steps 2 steps_cells steps_result
steps_sieved = takes_values_by four steps 2 (Some 2 ∷ Some 2 ∷ Some 2 ∷ []) steps_cells steps_result (is_raster_sound steps.numbers refl) (is_raster_sound steps_cells refl) (is_raster_sound steps_result refl) refl refl refl refl (targets_by four steps 2 _ ((1 ∷ 2 ∷ [], ((lit< tt, step_one), ((lit< tt, step_two), refl)), lit< tt, omega arith), ((2 ∷ [], ((lit< tt, step_two), refl), lit< tt, omega arith), (([], refl, lit< tt, omega arith), tt)))) refl

-- 5 5 5 / 5 7 5 / 5 5 7 under four: the sevens are two components of one cell

abbrev notched_cells : Raster ℕ
notched_cells = three_rows (5 ∷ 5 ∷ 5 ∷ []) (5 ∷ 7 ∷ 5 ∷ []) (5 ∷ 5 ∷ 7 ∷ [])

abbrev all_fives : Raster ℕ
all_fives = three_rows (5 ∷ 5 ∷ 5 ∷ []) (5 ∷ 5 ∷ 5 ∷ []) (5 ∷ 5 ∷ 5 ∷ [])

abbrev notched_four : RegionTable
notched_four = record {
  numbers = three_rows (Some 0 ∷ Some 0 ∷ Some 0 ∷ []) (Some 0 ∷ Some 1 ∷ Some 0 ∷ []) (Some 0 ∷ Some 0 ∷ Some 2 ∷ []);
  firsts = (0, 0) ∷ (1, 1) ∷ (2, 2) ∷ [];
  sizes = 7 ∷ 1 ∷ 1 ∷ [];
}

middle_to_fives : IsLargest four notched_four 1 0
middle_to_fives = is_largest_sound four notched_four 1 0 (1, 1) (0, 1) (is_raster_sound notched_four.numbers refl) refl

corner_to_fives : IsLargest four notched_four 2 0
corner_to_fives = is_largest_sound four notched_four 2 0 (2, 2) (1, 2) (is_raster_sound notched_four.numbers refl) refl

notched_sieved_four : TakesValues four notched_four 2 notched_cells all_fives
notched_sieved_four = takes_values_by four notched_four 2 (Some 0 ∷ Some 0 ∷ Some 0 ∷ []) notched_cells all_fives (is_raster_sound notched_four.numbers refl) (is_raster_sound notched_cells refl) (is_raster_sound all_fives refl) refl refl refl refl (targets_by four notched_four 2 _ (([], refl, lit< tt, omega arith), ((0 ∷ [], ((lit< tt, middle_to_fives), refl), lit< tt, omega arith), ((0 ∷ [], ((lit< tt, corner_to_fives), refl), lit< tt, omega arith), tt)))) refl

-- under eight they are one of two cells: at 2 it stays, at 3 it doesn't

abbrev notched_eight : RegionTable
notched_eight = record {
  numbers = three_rows (Some 0 ∷ Some 0 ∷ Some 0 ∷ []) (Some 0 ∷ Some 1 ∷ Some 0 ∷ []) (Some 0 ∷ Some 0 ∷ Some 1 ∷ []);
  firsts = (0, 0) ∷ (1, 1) ∷ [];
  sizes = 7 ∷ 2 ∷ [];
}

sevens_to_fives : IsLargest eight notched_eight 1 0
sevens_to_fives = is_largest_sound eight notched_eight 1 0 (1, 1) (0, 0) (is_raster_sound notched_eight.numbers refl) refl

notched_stays : TakesValues eight notched_eight 2 notched_cells notched_cells
notched_stays = takes_values_by eight notched_eight 2 (Some 0 ∷ Some 1 ∷ []) notched_cells notched_cells (is_raster_sound notched_eight.numbers refl) (is_raster_sound notched_cells refl) (is_raster_sound notched_cells refl) refl refl refl refl (targets_by eight notched_eight 2 _ (([], refl, lit< tt, omega arith), (([], refl, lit< tt, omega arith), tt))) refl

notched_sieved_eight : TakesValues eight notched_eight 3 notched_cells all_fives
notched_sieved_eight = takes_values_by eight notched_eight 3 (Some 0 ∷ Some 0 ∷ []) notched_cells all_fives (is_raster_sound notched_eight.numbers refl) (is_raster_sound notched_cells refl) (is_raster_sound all_fives refl) refl refl refl refl (targets_by eight notched_eight 3 _ (([], refl, lit< tt, omega arith), ((0 ∷ [], ((lit< tt, sevens_to_fives), refl), lit< tt, omega arith), tt))) refl
