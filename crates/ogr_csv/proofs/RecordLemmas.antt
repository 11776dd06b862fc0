-- The records that a reader of the crate csv has left.
use Rattle.std.proofs.Common.{◌≡◌, ℕ, zero, suc, ◌+◌, ◌<◌, ◌≤◌, Bool, true, false, not, ◌⊎◌, inl, inr, List, [], ◌∷◌, ◌++◌, length, add-one, arith, refl, ap, ◌∙◌, sym, subst, Option, Some, None, Ok, if◌then◌else◌}
use Rattle.std.proofs.lemmas.Bool.{false≢true}
use Rattle.csv.specs.Machine.{Read, ends_at_end, field_after, fields_after, is_end, next_record, step}
use Rattle.csv.specs.Reading.{NextIs, ReadRecord, ReadsNext, is_bom, strip_bom, default_config, has_failed, pending_of, reader_config, reader_source, reader_state, records_from, records_next, source_of}
use Rattle.csv.specs.declared.parser.Config.{Config}
use Rattle.csv.specs.declared.parser.State.{State}
use Rattle.csv.specs.declared.parser.State.TheVariants as st
use Rattle.csv.specs.declared.reader.Reader.{Reader}
use Rattle.ogr_csv.specs.Layer.{Record}
use Rattle.ogr_csv.specs.Inner.Left.{IsReading, TakesRecord, records_from_state, records_left}

-- a read leaves fewer bytes, or none at a record's start
abbrev LeavesLess : ℕ → Option Read → Type 0
LeavesLess count None = Unit {0}
LeavesLess count (Some p) = (length p.2 < count) ⊎ ((p.2 ≡ []) × (p.1 ≡ st.StartRecord))

less_by : (count more : ℕ) (o : Option Read) → count ≤ more → LeavesLess count o → LeavesLess more o
less_by count more None le less = tt
less_by count more (Some p) le (inl less) = inl (omega (arith, less, le))
less_by count more (Some p) le (inr none) = inr none

ended_less : (ends : Bool) (fields : List (List ℕ)) → LeavesLess 0 (if ends then Some (fields, st.StartRecord, []) else None)
ended_less true fields = inr (refl, refl)
ended_less false fields = tt

step_less : (ends : Bool) (count : ℕ) (p : Read) (o : Option Read) → length p.2 < count → LeavesLess count o → LeavesLess count (if ends then Some p else o)
step_less true count p o first more = inl first
step_less false count p o first more = more

next_less : (cfg : Config) (s : State) (fields : List (List ℕ)) (field xs : List ℕ) → LeavesLess (length xs) (next_record cfg s fields field xs)
unfolding next_record
next_less cfg s fields field [] = ended_less (ends_at_end s) (fields ++ field ∷ [])
next_less cfg s fields field (c ∷ rest) =
    let acts = step cfg s c in
    step_less (is_end acts.1) (suc (length rest)) (fields_after acts.1 fields field, acts.0, rest)
    (next_record cfg acts.0 (fields_after acts.1 fields field) (field_after acts.1 c field) rest) (omega arith)
    (less_by (length rest) (suc (length rest)) (next_record cfg acts.0 (fields_after acts.1 fields field) (field_after acts.1 c field) rest) (omega arith)
    (next_less cfg acts.0 (fields_after acts.1 fields field) (field_after acts.1 c field) rest))

-- no record is left of no byte
pub no_records : (cfg : Config) (most : ℕ) → records_from cfg most st.StartRecord [] ≡ []
unfolding records_from next_record
no_records cfg zero = refl
no_records cfg (suc most) = refl

behind_same : (cfg : Config) (m n count : ℕ) (o : Option Read) → ((s : State) (xs : List ℕ) → length xs < count → records_from cfg m s xs ≡ records_from cfg n s xs)
    → LeavesLess count o → records_next (records_from cfg m) o ≡ records_next (records_from cfg n) o
behind_same cfg m n count None same less = refl
behind_same cfg m n count (Some p) same (inl less) = ap (λ rest. p.0 ∷ rest) (same p.1 p.2 less)
behind_same cfg m n count (Some p) same (inr none) =
    ap (λ s. p.0 ∷ records_from cfg m s p.2) none.1 ∙ ap (λ xs. p.0 ∷ records_from cfg m st.StartRecord xs) none.0 ∙ ap (λ rest. p.0 ∷ rest) (no_records cfg m)
    ∙ sym (ap (λ s. p.0 ∷ records_from cfg n s p.2) none.1 ∙ ap (λ xs. p.0 ∷ records_from cfg n st.StartRecord xs) none.0 ∙ ap (λ rest. p.0 ∷ rest) (no_records cfg n))

-- the bound on the number of records is never met
pub same_records : (cfg : Config) (m n : ℕ) (s : State) (xs : List ℕ) → length xs < m → length xs < n → records_from cfg m s xs ≡ records_from cfg n s xs
unfolding records_from
same_records cfg zero n s xs less less2 = absurd (omega (arith, less))
same_records cfg (suc m) zero s xs less less2 = absurd (omega (arith, less2))
same_records cfg (suc m) (suc n) s xs less less2 =
    behind_same cfg m n (length xs) (next_record cfg s [] [] xs) (λ t ys h. same_records cfg m n t ys (omega (arith, h, less)) (omega (arith, h, less2))) (next_less cfg s [] [] xs)

behind_few : (cfg : Config) (n : ℕ) (o : Option Read) → ((s : State) (xs : List ℕ) → length (records_from cfg n s xs) ≤ n) → length (records_next (records_from cfg n) o) ≤ suc n
behind_few cfg n None few = omega arith
behind_few cfg n (Some p) few = omega (arith, few p.1 p.2)

pub few_records : (cfg : Config) (n : ℕ) (s : State) (xs : List ℕ) → length (records_from cfg n s xs) ≤ n
unfolding records_from
few_records cfg zero s xs = omega arith
few_records cfg (suc n) s xs = behind_few cfg n (next_record cfg s [] [] xs) (few_records cfg n)

mark_short : (marks : Bool) (a b c : ℕ) (rest : List ℕ) → length (if marks then rest else a ∷ b ∷ c ∷ rest) ≤ suc (suc (suc (length rest)))
mark_short true a b c rest = omega arith
mark_short false a b c rest = omega arith

pub strip_short : (xs : List ℕ) → length (strip_bom xs) ≤ length xs
unfolding strip_bom
strip_short [] = omega arith
strip_short (a ∷ []) = omega arith
strip_short (a ∷ b ∷ []) = omega arith
strip_short (a ∷ b ∷ c ∷ rest) = mark_short (is_bom a b c) a b c rest

-- the records of known bytes: the next one, and those of what is left behind it
taken_first : (s : State) (xs : List ℕ) (o : Option Read) (fields : Record) (s2 : State) (ys : List ℕ) → LeavesLess (length xs) o → NextIs o true fields s2 ys
    → records_next (records_from default_config (length xs)) o ≡ fields ∷ records_from default_config (length ys + 1) s2 ys
taken_first s xs None fields s2 ys less is = absurd (false≢true (sym is))
taken_first s xs (Some p) fields s2 ys (inl less) is =
    ap (λ rest. p.0 ∷ rest) (same_records default_config (length xs) (length p.2 + 1) p.1 p.2 less (omega arith))
    ∙ ap (λ r. r ∷ records_from default_config (length p.2 + 1) p.1 p.2) (sym is.1)
    ∙ ap (λ t. fields ∷ records_from default_config (length p.2 + 1) t p.2) (sym is.2)
    ∙ ap (λ zs. fields ∷ records_from default_config (length zs + 1) s2 zs) (sym is.3)
taken_first s xs (Some p) fields s2 ys (inr none) is =
    let start : s2 ≡ st.StartRecord = is.2 ∙ none.1 in
    let empty : ys ≡ [] = is.3 ∙ none.0 in
    ap (λ t. p.0 ∷ records_from default_config (length xs) t p.2) none.1
    ∙ ap (λ zs. p.0 ∷ records_from default_config (length xs) st.StartRecord zs) none.0
    ∙ ap (λ rest. p.0 ∷ rest) (no_records default_config (length xs))
    ∙ ap (λ r. r ∷ []) (sym is.1)
    ∙ sym (ap (λ t. fields ∷ records_from default_config (length ys + 1) t ys) start
    ∙ ap (λ zs. fields ∷ records_from default_config (length zs + 1) st.StartRecord zs) empty
    ∙ ap (λ rest. fields ∷ rest) (no_records default_config 1))

first_of_known : (s : State) (xs : List ℕ) (fields : Record) (s2 : State) (ys : List ℕ) → NextIs (next_record default_config s [] [] xs) true fields s2 ys
    → records_from_state s (Some xs) ≡ fields ∷ records_from_state s2 (Some ys)
unfolding records_from
first_of_known s xs fields s2 ys is = rw add-one (taken_first s xs (next_record default_config s [] [] xs) fields s2 ys (next_less default_config s [] [] xs) is)

none_of_known : (s : State) (xs : List ℕ) (o : Option Read) (fields : Record) (s2 : State) (ys : List ℕ) → next_record default_config s [] [] xs ≡ o → NextIs o false fields s2 ys
    → records_from_state s (Some xs) ≡ []
unfolding records_from
none_of_known s xs None fields s2 ys e is = rw (add-one, e) refl
none_of_known s xs (Some p) fields s2 ys e is = absurd (false≢true is.0)

-- by what is known of the bytes before and behind
read_true : (s : State) (old new : Option (List ℕ)) (fields : Record) (s2 : State) → (xs : List ℕ) × (old ≡ Some xs) → ReadsNext default_config s old new true fields s2
    → records_from_state s old ≡ fields ∷ records_from_state s2 new
read_true s None new fields s2 known is = cc known.1
read_true s (Some xs) None fields s2 known is = absurd is
read_true s (Some xs) (Some ys) fields s2 known is = first_of_known s xs fields s2 ys is

read_false : (s : State) (old new : Option (List ℕ)) (fields : Record) (s2 : State) → (xs : List ℕ) × (old ≡ Some xs) → ReadsNext default_config s old new false fields s2
    → records_from_state s old ≡ []
read_false s None new fields s2 known is = refl
read_false s (Some xs) None fields s2 known is = absurd is
read_false s (Some xs) (Some ys) fields s2 known is = none_of_known s xs (next_record default_config s [] [] xs) fields s2 ys refl is

-- a reader that has looked for the mark reads from its buffer on
source_is : {R : Type 0} (rem : R → Option (List ℕ)) (new : Reader R) → new.bom_checked ≡ true → source_of rem new ≡ pending_of (rem new.rdr) new
source_is rem new checked = rw checked refl

pub takes_record : {R : Type 0} (rem : R → Option (List ℕ)) (old new : Reader R) (found : Bool) (fields : Record) → IsReading old (source_of rem old) → ReadRecord rem old new found fields
    → TakesRecord (records_left old (source_of rem old)) (records_left new (source_of rem new)) fields (Ok found)
takes_record rem old new true fields is reads =
    let next : ReadsNext default_config old.state (source_of rem old) (pending_of (rem new.rdr) new) true fields new.state =
    subst (λ cfg. ReadsNext cfg old.state (source_of rem old) (pending_of (rem new.rdr) new) true fields new.state) is.config reads.0 in
    read_true old.state (source_of rem old) (pending_of (rem new.rdr) new) fields new.state is.known next
    ∙ ap (λ left. fields ∷ records_from_state new.state left) (sym (source_is rem new reads.1))
takes_record rem old new false fields is reads =
    let next : ReadsNext default_config old.state (source_of rem old) (pending_of (rem new.rdr) new) false fields new.state =
    subst (λ cfg. ReadsNext cfg old.state (source_of rem old) (pending_of (rem new.rdr) new) false fields new.state) is.config reads.0 in
    read_false old.state (source_of rem old) (pending_of (rem new.rdr) new) fields new.state is.known next

-- the records of a text are not more than its bytes and one
text_few : (bytes : List ℕ) → length (records_from_state st.StartRecord (Some (strip_bom bytes))) ≤ length bytes + 1
text_few bytes = omega (arith, few_records default_config (length (strip_bom bytes) + 1) st.StartRecord (strip_bom bytes), strip_short bytes)

pub header_taken : (bytes : List ℕ) (state : State) (left : Option (List ℕ)) (fields : Record) (rest : List Record) → state ≡ st.StartRecord → left ≡ Some (strip_bom bytes)
    → records_from_state state left ≡ fields ∷ rest → suc (length rest) ≤ length bytes + 1
header_taken bytes state left fields rest s l is =
    let all : records_from_state st.StartRecord (Some (strip_bom bytes)) ≡ fields ∷ rest =
    sym (ap (λ t. records_from_state t left) s ∙ ap (records_from_state st.StartRecord) l) ∙ is in
    omega (arith, text_few bytes, ap length all)
