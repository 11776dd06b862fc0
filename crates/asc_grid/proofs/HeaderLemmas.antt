-- Pairs of a header, one behind the other.
use Rattle.std.proofs.Common.{◌≡◌, ℕ, Bool, true, false, List, [], ◌∷◌, ◌++◌, drop, Option, Some, None, Result, ◌||◌, cond, not, refl, sym, ap, ◌∙◌, append-nil, append_assoc}
use Rattle.std.specs.Prelude.{find, if◌then◌else◌, is_some, option_map, pos}
use Rattle.std.specs.List.{list_any}
use Rattle.std.specs.Option.{option_or}
use Rattle.std.specs.Result.{result_unwrap_or}
use Rattle.std.proofs.lemmas.Bool.{false≢true}
use Rattle.std.proofs.lemmas.List.Folds.{find-append}
use Rattle.cell_base.specs.declared.fault.CellFault.{CellFault}
use Rattle.asc_grid.specs.Tokens.{Token}
use Rattle.asc_grid.specs.Keyword.{keyword_of}
use Rattle.asc_grid.specs.Header.{Pair, begins_number, edge_in, header_of, is_of, said_of, value_text, values_of, without_pairs}
use Rattle.asc_grid.specs.Offence.{offence_of_pair, offence_of_pairs, offence_of_value}
use Rattle.asc_grid.specs.Value.{position_of, wrong_value}
use Rattle.asc_grid.specs.Inner.Cursor.{begins_keyword}
use Rattle.asc_grid.specs.Inner.Values.{IsPositive, RefusesPair, TakesPair, has, next_pair, with_group, with_value}
use Rattle.asc_grid.specs.declared.keyword.Group.{Group}
use Rattle.asc_grid.specs.declared.keyword.Group.TheVariants.{Columns, Rows, Left, Lower, Size, Nodata}
use Rattle.asc_grid.specs.declared.keyword.Keyword.{Keyword}
use Rattle.asc_grid.specs.declared.header.HeaderValues.{HeaderValues}
use Rattle.asc_grid.specs.declared.fault.GridKind.{GridKind}
use Rattle.asc_grid.specs.declared.fault.GridKind.TheVariants.{BadNumber, RepeatedKeyword, UnknownKeyword}
use Rattle.asc_grid.specs.declared.fault.GridFault.{GridFault}
use Rattle.asc_grid.specs.declared.fault.GridFault.TheVariants.{At}

some_by : {X V : Type 0} (f : X → V) (b : Bool) (x : X) (found : Option X) (rest : Bool) → is_some (option_map f found) ≡ rest → is_some (option_map f (cond b (Some x) found)) ≡ b || rest
some_by f true x found rest is = refl
some_by f false x found rest is = is

-- something is found exactly where one passes the test
is_some-find : {X V : Type 0} (f : X → V) (p : X → Bool) (xs : List X) → is_some (option_map f (find p xs)) ≡ list_any p xs
is_some-find f p [] = refl
is_some-find f p (x ∷ xs) = some_by f (p x) x (find p xs) (list_any p xs) (is_some-find f p xs)

-- a group has a value exactly where its keyword came
pub has-values_of : {T : Type 0} (read : List ℕ → Result T CellFault) (pairs : List Pair) (group : Group) → has (values_of read pairs) group ≡ list_any (is_of group) pairs
has-values_of read pairs Columns = is_some-find _ (is_of Columns) pairs
has-values_of read pairs Rows = is_some-find _ (is_of Rows) pairs
has-values_of read pairs Left = is_some-find _ (is_of Left) pairs
has-values_of read pairs Lower = is_some-find _ (is_of Lower) pairs
has-values_of read pairs Size = is_some-find _ (is_of Size) pairs
has-values_of read pairs Nodata = is_some-find _ (is_of Nodata) pairs

none_found : {X : Type 0} (p : X → Bool) (found : Option X) → is_some (option_map (λ x. x) found) ≡ false → found ≡ None
none_found p None nothing = refl
none_found p (Some x) nothing = absurd (false≢true (sym nothing))

not_found : {X : Type 0} (p : X → Bool) (xs : List X) → list_any p xs ≡ false → find p xs ≡ None
not_found p xs nothing = none_found p (find p xs) (is_some-find (λ x. x) p xs ∙ nothing)

or_none : {X : Type 0} (o : Option X) → option_or o None ≡ o
or_none None = refl
or_none (Some x) = refl

found_behind : {X : Type 0} (p : X → Bool) (xs : List X) (x : X) → list_any p xs ≡ false → p x ≡ true → find p (xs ++ x ∷ []) ≡ Some x
found_behind p xs x before own =
    let one : find p (x ∷ []) ≡ Some x = rw own refl in
    rw (find-append p xs (x ∷ []), not_found p xs before, one) refl

found_before : {X : Type 0} (p : X → Bool) (xs : List X) (x : X) → p x ≡ false → find p (xs ++ x ∷ []) ≡ find p xs
found_before p xs x other =
    let one : find p (x ∷ []) ≡ None = rw other refl in
    rw (find-append p xs (x ∷ []), one) (or_none (find p xs))

-- one more pair says nothing of another group
said_other : {V : Type 0} (group : Group) (f : Pair → V) (pairs : List Pair) (pair : Pair) → is_of group pair ≡ false → said_of group f (pairs ++ pair ∷ []) ≡ said_of group f pairs
said_other group f pairs pair other = rw (found_before (is_of group) pairs pair other) refl

-- and gives its own group, which hasn't come, its value
said_first : {V : Type 0} (group : Group) (f : Pair → V) (pairs : List Pair) (pair : Pair) → list_any (is_of group) pairs ≡ false → is_of group pair ≡ true → said_of group f (pairs ++ pair ∷ []) ≡ Some (f pair)
said_first group f pairs pair before own = rw (found_behind (is_of group) pairs pair before own) refl

same_values : {T : Type 0} (v w : HeaderValues T) → v.columns ≡ w.columns → v.rows ≡ w.rows → v.left ≡ w.left → v.lower ≡ w.lower → v.size ≡ w.size → v.nodata ≡ w.nodata → v ≡ w
same_values v w columns rows left lower size nodata = λ i. record {
  columns = columns i;
  rows = rows i;
  left = left i;
  lower = lower i;
  size = size i;
  nodata = nodata i;
}

edge_in-is : (pair : Pair) (group : Group) (centre : Bool) → keyword_of pair.keyword.text ≡ Some (record { group = group; centre = centre }) → edge_in pair ≡ record { at = result_unwrap_or (position_of (value_text pair)) (pos 0); centre = centre }
edge_in-is pair group centre is = rw is refl

pub values_of-append : {T : Type 0} (read : List ℕ → Result T CellFault) (pairs : List Pair) (pair : Pair) (group : Group) (centre : Bool) → keyword_of pair.keyword.text ≡ Some (record { group = group; centre = centre }) → list_any (is_of group) pairs ≡ false → values_of read (pairs ++ pair ∷ []) ≡ with_group read (values_of read pairs) group centre (value_text pair)
values_of-append read pairs pair Columns centre is before =
    same_values _ _ (said_first Columns _ pairs pair before (rw is refl)) (said_other Rows _ pairs pair (rw is refl)) (said_other Left _ pairs pair (rw is refl)) (said_other Lower _ pairs pair (rw is refl)) (said_other Size _ pairs pair (rw is refl)) (said_other Nodata _ pairs pair (rw is refl))
values_of-append read pairs pair Rows centre is before =
    same_values _ _ (said_other Columns _ pairs pair (rw is refl)) (said_first Rows _ pairs pair before (rw is refl)) (said_other Left _ pairs pair (rw is refl)) (said_other Lower _ pairs pair (rw is refl)) (said_other Size _ pairs pair (rw is refl)) (said_other Nodata _ pairs pair (rw is refl))
values_of-append read pairs pair Left centre is before =
    same_values _ _ (said_other Columns _ pairs pair (rw is refl)) (said_other Rows _ pairs pair (rw is refl)) (said_first Left _ pairs pair before (rw is refl) ∙ ap Some (edge_in-is pair Left centre is)) (said_other Lower _ pairs pair (rw is refl)) (said_other Size _ pairs pair (rw is refl)) (said_other Nodata _ pairs pair (rw is refl))
values_of-append read pairs pair Lower centre is before =
    same_values _ _ (said_other Columns _ pairs pair (rw is refl)) (said_other Rows _ pairs pair (rw is refl)) (said_other Left _ pairs pair (rw is refl)) (said_first Lower _ pairs pair before (rw is refl) ∙ ap Some (edge_in-is pair Lower centre is)) (said_other Size _ pairs pair (rw is refl)) (said_other Nodata _ pairs pair (rw is refl))
values_of-append read pairs pair Size centre is before =
    same_values _ _ (said_other Columns _ pairs pair (rw is refl)) (said_other Rows _ pairs pair (rw is refl)) (said_other Left _ pairs pair (rw is refl)) (said_other Lower _ pairs pair (rw is refl)) (said_first Size _ pairs pair before (rw is refl)) (said_other Nodata _ pairs pair (rw is refl))
values_of-append read pairs pair Nodata centre is before =
    same_values _ _ (said_other Columns _ pairs pair (rw is refl)) (said_other Rows _ pairs pair (rw is refl)) (said_other Left _ pairs pair (rw is refl)) (said_other Lower _ pairs pair (rw is refl)) (said_other Size _ pairs pair (rw is refl)) (said_first Nodata _ pairs pair before (rw is refl))

refused_by : (before : List Pair) (pair : Pair) (k : Keyword) (came : Bool) → keyword_of pair.keyword.text ≡ Some k → list_any (is_of k.group) before ≡ came → offence_of_pair before pair ≡ (if came then Some (At RepeatedKeyword pair.keyword.line) else offence_of_value k.group pair.keyword.line pair.value)
refused_by before pair k came is repeated = rw (is, repeated) refl

came_by : {T : Type 0} (read : List ℕ → Result T CellFault) (old : HeaderValues T) (before : List Pair) (group : Group) (came : Bool) → has old group ≡ came → old ≡ values_of read before → list_any (is_of group) before ≡ came
came_by read old before group came is from = sym (has-values_of read before group) ∙ rw (← from) is

pub refuses_unknown : {T : Type 0} (read : List ℕ → Result T CellFault) (pair : Pair) (old : HeaderValues T) → keyword_of pair.keyword.text ≡ None → RefusesPair read pair old (At UnknownKeyword pair.keyword.line)
refuses_unknown read pair old is = λ before from. rw is refl

pub refuses_repeated : {T : Type 0} (read : List ℕ → Result T CellFault) (pair : Pair) (k : Keyword) (old : HeaderValues T) → keyword_of pair.keyword.text ≡ Some k → has old k.group ≡ true → RefusesPair read pair old (At RepeatedKeyword pair.keyword.line)
refuses_repeated read pair k old is came = λ before from. refused_by before pair k true is (came_by read old before k.group true came from)

pub refuses_missing : {T : Type 0} (read : List ℕ → Result T CellFault) (pair : Pair) (k : Keyword) (old : HeaderValues T) → keyword_of pair.keyword.text ≡ Some k → has old k.group ≡ false → pair.value ≡ None → RefusesPair read pair old (At BadNumber pair.keyword.line)
refuses_missing read pair k old is came nothing = λ before from. refused_by before pair k false is (came_by read old before k.group false came from) ∙ rw nothing refl

pub refuses_value : {T : Type 0} (read : List ℕ → Result T CellFault) (pair : Pair) (k : Keyword) (old : HeaderValues T) (value : Token) (kind : GridKind) → keyword_of pair.keyword.text ≡ Some k → has old k.group ≡ false → pair.value ≡ Some value → wrong_value k.group value.text ≡ Some kind → RefusesPair read pair old (At kind value.line)
refuses_value read pair k old value kind is came some wrong = λ before from. refused_by before pair k false is (came_by read old before k.group false came from) ∙ rw (some, wrong) refl

pub takes_pair : {T : Type 0} (read : List ℕ → Result T CellFault) (pair : Pair) (k : Keyword) (old new : HeaderValues T) (value : Token) → keyword_of pair.keyword.text ≡ Some k → has old k.group ≡ false → pair.value ≡ Some value → wrong_value k.group value.text ≡ None → new ≡ with_value read old k value.text → (IsPositive old → IsPositive new) → TakesPair read pair old new
takes_pair read pair k old new value is came some right becomes positive = record {
  sound = λ before from. refused_by before pair k false is (came_by read old before k.group false came from) ∙ rw (some, right) refl;
  values = λ before from.
      let text : value_text pair ≡ value.text = rw some refl in
      let here = values_of-append read before pair k.group k.centre is (came_by read old before k.group false came from) in
      becomes ∙ rw (from, ← text) (sym here);
  positive = positive;
}

is_not : (b : Bool) → not b ≡ true → b ≡ false
is_not true e = absurd (false≢true e)
is_not false e = refl

is_so : (b : Bool) → not b ≡ false → b ≡ true
is_so true e = refl
is_so false e = absurd (false≢true (sym e))

-- a keyword stands first: it is a pair with the token behind it
pub header_of-keyword : (token : Token) (tokens : List Token) → begins_keyword (token ∷ tokens) ≡ true → header_of (token ∷ tokens) ≡ record { pairs = next_pair token tokens ∷ (header_of (drop 1 tokens)).pairs; cells = (header_of (drop 1 tokens)).cells }
header_of-keyword token [] begins = rw (is_not (begins_number token.text) begins) refl
header_of-keyword token (value ∷ tokens) begins = rw (is_not (begins_number token.text) begins) refl

-- no keyword stands first: the cells come
pub header_of-cells : (tokens : List Token) → begins_keyword tokens ≡ false → header_of tokens ≡ without_pairs tokens
header_of-cells [] begins = refl
header_of-cells (token ∷ []) begins = rw (is_so (begins_number token.text) begins) refl
header_of-cells (token ∷ value ∷ tokens) begins = rw (is_so (begins_number token.text) begins) refl

append_assoc_back : (before : List Pair) (pair : Pair) (pairs : List Pair) → before ++ (pair ∷ pairs) ≡ (before ++ pair ∷ []) ++ pairs
append_assoc_back before pair pairs = sym (append_assoc before (pair ∷ []) pairs)

-- the values of the pairs read so far; no offence is among them, and the others are left
pub record HasRead {T : Type 0} (read : List ℕ → Result T CellFault) (all : List Token) (now : HeaderValues T) (left : List Token) : Type 0 where
  pub before : List Pair
  pub values : now ≡ values_of read before
  pub pairs : (header_of all).pairs ≡ before ++ (header_of left).pairs
  pub cells : (header_of all).cells ≡ (header_of left).cells
  pub offence : offence_of_pairs [] (header_of all).pairs ≡ offence_of_pairs before (header_of left).pairs

pub has_read_nothing : {T : Type 0} (read : List ℕ → Result T CellFault) (all : List Token) → HasRead read all (values_of read []) all
has_read_nothing read all = record { before = []; values = refl; pairs = refl; cells = refl; offence = refl }

pub reads_pair : {T : Type 0} (read : List ℕ → Result T CellFault) (all : List Token) (old new : HeaderValues T) (token : Token) (tokens left : List Token) → begins_keyword (token ∷ tokens) ≡ true → left ≡ drop 1 tokens → HasRead read all old (token ∷ tokens) → TakesPair read (next_pair token tokens) old new → HasRead read all new left
reads_pair read all old new token tokens left begins is so_far takes =
    let step = header_of-keyword token tokens begins in
    record {
      before = so_far.before ++ next_pair token tokens ∷ [];
      values = takes.values so_far.before so_far.values;
      pairs = so_far.pairs ∙ rw (step, is) (append_assoc_back so_far.before (next_pair token tokens) (header_of (drop 1 tokens)).pairs);
      cells = so_far.cells ∙ rw (step, is) refl;
      offence = so_far.offence ∙ rw (step, is, takes.sound so_far.before so_far.values) refl;
    }

pub refuses_header : {T : Type 0} (read : List ℕ → Result T CellFault) (all : List Token) (old : HeaderValues T) (token : Token) (tokens : List Token) (fault : GridFault) → begins_keyword (token ∷ tokens) ≡ true → HasRead read all old (token ∷ tokens) → RefusesPair read (next_pair token tokens) old fault → offence_of_pairs [] (header_of all).pairs ≡ Some fault
refuses_header read all old token tokens fault begins so_far refuses =
    let step = header_of-keyword token tokens begins in
    so_far.offence ∙ rw (step, refuses so_far.before so_far.values) refl

-- where the cells come, all pairs were read
pub record IsRead {T : Type 0} (read : List ℕ → Result T CellFault) (all : List Token) (now : HeaderValues T) (left : List Token) : Type 0 where
  pub values : now ≡ values_of read (header_of all).pairs
  pub sound : offence_of_pairs [] (header_of all).pairs ≡ None
  pub cells : left ≡ (header_of all).cells

pub reads_all : {T : Type 0} (read : List ℕ → Result T CellFault) (all : List Token) (values : HeaderValues T) (left : List Token) → begins_keyword left ≡ false → HasRead read all values left → IsRead read all values left
reads_all read all values left ends so_far =
    let step = header_of-cells left ends in
    let pairs : (header_of all).pairs ≡ so_far.before = so_far.pairs ∙ rw step (append-nil so_far.before) in
    record {
      values = rw pairs so_far.values;
      sound = so_far.offence ∙ rw step refl;
      cells = sym (so_far.cells ∙ rw step refl);
    }
