-- Values that are read, and an extent of four of them.
use Rattle.std.proofs.Common.{◌≡◌, ℕ, ℤ, Option, Some, None, Ok, Err, refl}
use Rattle.std.specs.Option.{ok_or}
use Rattle.tool_words.specs.Value.{coordinate}
use Rattle.tool_words.specs.Grammar.{Piece, value_at}
use Rattle.tool_words.specs.Offence.{unfit_value}
use Rattle.tool_words.specs.Rasterize.{four_coordinates}
use Rattle.tool_words.specs.Inner.Read.{ReadsExtent, bad_value, read_at}
use Rattle.tool_words.specs.declared.fault.WordFault.{WordFault}

value_is : {A : Type 0} (value : Option A) (fault : WordFault) (a : A) → Ok a ≡ ok_or value fault → value ≡ Some a
value_is None fault a is = absurd (cc is)
value_is (Some x) fault a is = cc is

no_value : {A : Type 0} (value : Option A) (fault found : WordFault) → Err found ≡ ok_or value fault → (value ≡ None) × (found ≡ fault)
no_value None fault found is = (refl, cc is)
no_value (Some x) fault found is = absurd (cc is)

-- a coordinate was read
abbrev Has : Piece → ℕ → ℤ → Type 0
Has piece i x = Ok x ≡ read_at coordinate piece i

-- and one wasn't
abbrev Lacks : Piece → ℕ → WordFault → Type 0
Lacks piece i fault = Err fault ≡ read_at coordinate piece i

is_there : (piece : Piece) (i : ℕ) (x : ℤ) → Has piece i x → coordinate (value_at piece i) ≡ Some x
is_there piece i x has = value_is (coordinate (value_at piece i)) (bad_value piece i) x has

pub second_bad : (piece : Piece) (a : ℤ) (fault : WordFault) → Has piece 0 a → Lacks piece 1 fault → unfit_value piece 0 four_coordinates ≡ Some fault
second_bad piece a fault first lacks =
    let bad = no_value (coordinate (value_at piece 1)) (bad_value piece 1) fault lacks in
    rw (is_there piece 0 a first, bad.0, bad.1) refl

pub third_bad : (piece : Piece) (a b : ℤ) (fault : WordFault) → Has piece 0 a → Has piece 1 b → Lacks piece 2 fault → unfit_value piece 0 four_coordinates ≡ Some fault
third_bad piece a b fault first second lacks =
    let bad = no_value (coordinate (value_at piece 2)) (bad_value piece 2) fault lacks in
    rw (is_there piece 0 a first, is_there piece 1 b second, bad.0, bad.1) refl

pub fourth_bad : (piece : Piece) (a b c : ℤ) (fault : WordFault) → Has piece 0 a → Has piece 1 b → Has piece 2 c → Lacks piece 3 fault → unfit_value piece 0 four_coordinates ≡ Some fault
fourth_bad piece a b c fault first second third lacks =
    let bad = no_value (coordinate (value_at piece 3)) (bad_value piece 3) fault lacks in
    rw (is_there piece 0 a first, is_there piece 1 b second, is_there piece 2 c third, bad.0, bad.1) refl

pub all_read : (piece : Piece) (a b c d : ℤ) → Has piece 0 a → Has piece 1 b → Has piece 2 c → Has piece 3 d → ReadsExtent piece (Ok (record { xmin = a; ymin = b; xmax = c; ymax = d }))
all_read piece a b c d first second third fourth =
    rw (is_there piece 0 a first, is_there piece 1 b second, is_there piece 2 c third, is_there piece 3 d fourth) (refl, refl)
