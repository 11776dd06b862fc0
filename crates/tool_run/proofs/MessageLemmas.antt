-- Lines that a sink takes in two parts.
use Rattle.std.specs.Prelude.{codes, decimal}
use Rattle.std.proofs.Common.{append_assoc, subst, ap, sym, ◌∙◌, ◌≡◌, ◌≤◌, ◌++◌, [], ◌+◌, ℕ, List, Option, Ok, Err, length, take, drop, refl, arith}
use Rattle.std.proofs.lemmas.Grind.{common_steps}
use Rattle.std.proofs.lemmas.List.{take-append-le}
use Rattle.std.proofs.Math.Seq.{take-add}
use Rattle.std.specs.declared.result.Result.{Result}
use Rattle.rv_outside.specs.Causes.{Counts}
use Rattle.rv_outside.specs.Sink.{Adds, SinkState, Says}
use Rattle.rv_outside.specs.declared.folder.Trouble.{Trouble}
use Rattle.rv_outside.proofs.WrittenLemmas.{adds_nothing, adds_then}
use Rattle.asc_grid.specs.declared.fault.GridKind.{GridKind}
use Rattle.asc_grid.specs.declared.fault.GridKind.TheVariants.{UnknownKeyword, RepeatedKeyword, MissingKeyword, BadNumber, OutOfRange, TooLarge, BadCell, TooFewCells, TooManyCells}
use Rattle.asc_grid.specs.declared.fault.GridFault.TheVariants as grid
use Rattle.geo_transform.specs.declared.fault.FrameFault.{FrameFault}
use Rattle.geo_transform.specs.declared.fault.FrameFault.TheVariants as frame
use Rattle.tool_outcome.specs.Message.{frame_text, grid_text, line_of_frame, line_of_grid}
use Rattle.tool_run.specs.Inner.Steps.{grid_number, grid_words}
use Rattle.tool_run.specs.Inner.Strokes.{frame_number, frame_words}
use Rattle.tool_run.specs.Line.{SaysLine}

-- all of the first part, and some of the second
adds_second : (before mid now : Option (List ℕ)) (first second : List ℕ) (n : ℕ) → n ≤ length second → Adds before mid first → Adds mid now (take n second) → (m : ℕ) × (m ≤ length (first ++ second)) × Adds before now (take m (first ++ second))
adds_second before mid now first second n le one two =
    let front : take (length first) (first ++ second) ≡ first = grind (arith, common_steps) in
    let back : drop (length first) (first ++ second) ≡ second = grind (arith, common_steps) in
    let parts : take (length first + n) (first ++ second) ≡ first ++ take n second = rw (take-add (length first) n (first ++ second), front, back) refl in
    (length first + n, grind (arith, common_steps), rw parts (adds_then before mid now first (take n second) one two))

counts_on : {P : Type 0} (before mid now : ℕ) → mid ≡ before → Counts P mid now → Counts P before now
counts_on before mid now same counts = rw same at counts

-- the first part was taken, and the second cut off
says_second : (first second : List ℕ) (trouble : Trouble) (old mid new : SinkState) → Says first (Ok tt) old mid → Says second (Err trouble) mid new → Says (first ++ second) (Err trouble) old new
says_second first second trouble old mid new one two = record {
  said = tt;
  part = adds_second old.written mid.written new.written first second two.part.0 two.part.1 one.said two.part.2;
  leaves = record {
    faults = counts_on _ _ _ (one.leaves.faults.stood (λ no. cc no)) two.leaves.faults;
    wants = counts_on _ _ _ (one.leaves.wants.stood (λ no. cc no)) two.leaves.wants;
  };
}

says_all : (first second : List ℕ) (old mid new : SinkState) → Says first (Ok tt) old mid → Says second (Ok tt) mid new → Says (first ++ second) (Ok tt) old new
says_all first second old mid new one two = record {
  said = adds_then old.written mid.written new.written first second one.said two.said;
  part = tt;
  leaves = record {
    faults = counts_on _ _ _ (one.leaves.faults.stood (λ no. cc no)) two.leaves.faults;
    wants = counts_on _ _ _ (one.leaves.wants.stood (λ no. cc no)) two.leaves.wants;
  };
}

-- the first part was taken, and the second, or some of it
pub says_then : (first second : List ℕ) (r : Result (Unit {0}) Trouble) (old mid new : SinkState) → Says first (Ok tt) old mid → Says second r mid new → Says (first ++ second) r old new
says_then first second (Ok u) old mid new one two = says_all first second old mid new one two
says_then first second (Err trouble) old mid new one two = says_second first second trouble old mid new one two

-- some of the first part was taken, and nothing of what comes behind it
pub says_before : (first more : List ℕ) (trouble : Trouble) (old new : SinkState) → Says first (Err trouble) old new → Says (first ++ more) (Err trouble) old new
says_before first more trouble old new one =
    let front : take one.part.0 (first ++ more) ≡ take one.part.0 first = take-append-le one.part.0 first more one.part.1 in
    record {
      said = tt;
      part = (one.part.0, grind (arith, common_steps, one.part.1), rw front one.part.2);
      leaves = one.leaves;
    }

-- an empty text is handed over by doing nothing
pub nothing_said : (state : SinkState) → Says [] (Ok tt) state state
nothing_said state = record {
  said = adds_nothing state.written;
  part = tt;
  leaves = record {
    faults = record { rose = λ no. absurd (cc no); stood = λ _. refl; later = omega arith };
    wants = record { rose = λ no. absurd (cc no); stood = λ _. refl; later = omega arith };
  };
}

pub says_nothing : (state : SinkState) → SaysLine [] state state
says_nothing state = (Ok tt, nothing_said state)

-- what is wrong with a grid, in its two parts
text_parts : (kind : GridKind) → grid_text kind ≡ grid_words kind ++ grid_number kind
text_parts UnknownKeyword = refl
text_parts RepeatedKeyword = refl
text_parts MissingKeyword = refl
text_parts BadNumber = refl
text_parts OutOfRange = refl
text_parts (TooLarge cells) = refl
text_parts BadCell = refl
text_parts TooFewCells = refl
text_parts TooManyCells = refl

-- the line of an offence, in the parts that are handed over
pub offence_parts : (name : List ℕ) (line : ℕ) (kind : GridKind) → (name ++ codes ": line " ++ decimal line) ++ (codes ": " ++ grid_words kind ++ grid_number kind) ++ codes "\n" ≡ line_of_grid name (grid.At kind line)
offence_parts name line kind =
    let first : List ℕ = name ++ codes ": line " ++ decimal line in
    let words : (codes ": " ++ grid_words kind) ++ grid_number kind ≡ codes ": " ++ grid_text kind =
    append_assoc (codes ": ") (grid_words kind) (grid_number kind) ∙ ap (λ t. codes ": " ++ t) (sym (text_parts kind)) in
    ap (λ t. t ++ codes "\n") (ap (λ t. first ++ t) words ∙ sym (append_assoc first (codes ": ") (grid_text kind)))

-- what is wrong with a frame, in its two parts
frame_parts : (fault : FrameFault) → frame_text fault ≡ frame_words fault ++ frame_number fault
frame_parts frame.BadSize = refl
frame_parts (frame.TooLarge cells) = refl
frame_parts frame.BadCell = refl
frame_parts frame.NotSquare = refl
frame_parts frame.OutOfRange = refl

-- the line of a frame's fault, in the parts that are handed over
pub frame_line_parts : (fault : FrameFault) → (codes "frame: " ++ frame_words fault ++ frame_number fault) ++ codes "\n" ≡ line_of_frame fault
frame_line_parts fault =
    ap (λ t. t ++ codes "\n") (append_assoc (codes "frame: ") (frame_words fault) (frame_number fault) ∙ ap (λ t. codes "frame: " ++ t) (sym (frame_parts fault)))

-- the same text in other parts
pub says_same : (text line : List ℕ) (r : Result (Unit {0}) Trouble) (old new : SinkState) → text ≡ line → Says text r old new → Says line r old new
says_same text line r old new is says = subst (λ l. Says l r old new) is says
