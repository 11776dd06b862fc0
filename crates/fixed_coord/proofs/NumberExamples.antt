-- The definitions of numbers at worked texts, computed at each check.
use Rattle.std.proofs.Common.{◌≡◌, ◌^◌, Ok, Err, pos, neg_ℤ, refl}
use Rattle.std.specs.Prelude.{codes}
use Rattle.std.specs.Fmt.{digits}
use Rattle.fixed_coord.specs.declared.fault.NumberFault.TheVariants.{NotNumber, NotWhole, OutOfRange}
use Rattle.fixed_coord.specs.Round.{round_half_away}
use Rattle.fixed_coord.specs.Scaled.{scaled_of}
use Rattle.fixed_coord.specs.Whole.{whole_of}
use Rattle.fixed_coord.specs.Coordinate.{coord_of}
use Rattle.fixed_coord.specs.Shortest.{shortest}

two_places_down : scaled_of 4 (codes "1.50E-2") ≡ Ok (pos 150)
two_places_down = refl

half_up : scaled_of 4 (codes "0.00005") ≡ Ok (pos 1)
half_up = refl

half_down : scaled_of 4 (codes "-0.00005") ≡ Ok (neg_ℤ (pos 1))
half_down = refl

below_half : scaled_of 0 (codes "2.4999") ≡ Ok (pos 2)
below_half = refl

capped_low : scaled_of 6 (codes "-3.4028234663852886e+38") ≡ Ok (neg_ℤ (pos (10 ^ 30)))
capped_low = refl

minus_zero : scaled_of 10 (codes "-0") ≡ Ok (pos 0)
minus_zero = refl

point_last : scaled_of 1 (codes "+5.") ≡ Ok (pos 50)
point_last = refl

point_first : scaled_of 1 (codes ".5") ≡ Ok (pos 5)
point_first = refl

empty : scaled_of 0 (codes "") ≡ Err NotNumber
empty = refl

point_alone : scaled_of 0 (codes ".") ≡ Err NotNumber
point_alone = refl

exponent_alone : scaled_of 0 (codes "e3") ≡ Err NotNumber
exponent_alone = refl

exponent_empty : scaled_of 0 (codes "1e") ≡ Err NotNumber
exponent_empty = refl

no_number : scaled_of 0 (codes "nan") ≡ Err NotNumber
no_number = refl

hexadecimal : scaled_of 0 (codes "0x10") ≡ Err NotNumber
hexadecimal = refl

comma : scaled_of 0 (codes "1,5") ≡ Err NotNumber
comma = refl

whole_with_point : whole_of (codes "12.0") ≡ Ok (pos 12)
whole_with_point = refl

not_whole : whole_of (codes "12.5") ≡ Err NotWhole
not_whole = refl

whole_capped : whole_of (codes "1e40") ≡ Ok (pos (10 ^ 30))
whole_capped = refl

farthest : coord_of (codes "40000000.00000000004") ≡ Ok (pos 400000000000000000)
farthest = refl

past_farthest : coord_of (codes "40000000.00000000005") ≡ Err OutOfRange
past_farthest = refl

tenths : shortest (neg_ℤ (pos 5)) 1 ≡ codes "-0.5"
unfolding digits
tenths = refl

no_decimals : shortest (pos 12000) 3 ≡ codes "12"
unfolding digits
no_decimals = refl

inner_zeros : shortest (pos 1000400) 6 ≡ codes "1.0004"
unfolding digits
inner_zeros = refl

half_away_up : round_half_away (pos 5) 2 ≡ pos 3
half_away_up = refl

half_away_down : round_half_away (neg_ℤ (pos 5)) 2 ≡ neg_ℤ (pos 3)
half_away_down = refl
