-- How check ends, as the end of a run.
use Rattle.std.proofs.Common.{◌≡◌, ◌≢◌, inl, inr, ℕ, ◌*◌, ◌<◌, ◌≤◌, true, false, List, [], Option, Some, None, Result, Ok, Err, IfSome, OnErr, length, refl, sym, ap, ◌∙◌, subst, arith}
use Rattle.std.specs.Prelude.{nat_lt, unwrap_or}
use Rattle.std.proofs.lemmas.Bool.Decides.{nat_tests}
use Rattle.rv_outside.specs.Causes.{Counts}
use Rattle.rv_outside.specs.Files.{Files}
use Rattle.rv_outside.specs.Sink.{Says, SinkState}
use Rattle.rv_outside.specs.declared.folder.Trouble.{Trouble}
use Rattle.rv_outside.specs.declared.folder.Trouble.TheVariants as trouble
use Rattle.cell_base.specs.Raster.{most_cells}
use Rattle.geo_transform.specs.declared.fault.FrameFault.TheVariants.{TooLarge}
use Rattle.tool_words.specs.declared.job.CheckJob.{CheckJob}
use Rattle.tool_words.specs.declared.job.Job.{Job}
use Rattle.tool_words.specs.declared.job.Job.TheVariants.{Check}
use Rattle.tool_outcome.specs.Check.{IsCheckAnswer, IsCheckText, check_lines, checked_grid, layer_job}
use Rattle.tool_outcome.specs.Outcome.{CanBeDone, DoesPrinting, LeavesPart}
use Rattle.tool_outcome.specs.Source.{text_of}
use Rattle.tool_outcome.specs.Status.{IsDecided, status_of}
use Rattle.tool_outcome.specs.declared.fault.Fault.{Fault}
use Rattle.tool_outcome.specs.declared.fault.Fault.TheVariants as fault
use Rattle.tool_outcome.specs.declared.status.Status.{Status}
use Rattle.tool_outcome.specs.declared.status.Status.TheVariants as status
use Rattle.tool_outcome.proofs.PolygonizeLemmas.{one_table}
use Rattle.tool_run.specs.Causes.{HasOutCauses}
use Rattle.tool_run.specs.Check.{CountsComponents, EndsCheck, HasChecked, IsLayerOf, ends_with, with_back, with_grid, with_layer}
use Rattle.tool_run.specs.Printed.{IsPrinted, Prints}
use Rattle.tool_run.proofs.JobLemmas.{prints_nothing}

-- the answer of check, by the number of cells

few_answer : (job : CheckJob) (text : List ℕ) → job.width * job.height ≤ most_cells → IsCheckText job (checked_grid job) text → IsCheckAnswer job (Ok text)
few_answer job text few is =
    let test : nat_lt most_cells (job.width * job.height) ≡ false = grind (arith, nat_tests, few) in
    rw test is

many_answer : (job : CheckJob) → most_cells < job.width * job.height → IsCheckAnswer job (Err (fault.Frame (TooLarge (job.width * job.height))))
many_answer job many =
    let test : nat_lt most_cells (job.width * job.height) ≡ true = grind (arith, nat_tests, many) in
    rw test refl

-- the lines of a layer and of the number of components
pub lines_are : (job : CheckJob) (layer : List ℕ) (count : ℕ) → job.width * job.height ≤ most_cells → IsLayerOf job layer → CountsComponents (checked_grid job) count
    → IsCheckAnswer job (Ok (check_lines (job.width * job.height) count (length layer)))
lines_are job layer count few is_layer (valid, regions, mask, labelled, is) =
    let same : regions ≡ is_layer.regions = one_table _ (checked_grid job) valid is_layer.valid regions is_layer.regions mask is_layer.mask labelled is_layer.labelled in
    few_answer job (check_lines (job.width * job.height) count (length layer)) few (record {
      layer = layer;
      is_layer = is_layer;
      is = ap (λ (n : ℕ). check_lines (job.width * job.height) n (length layer)) (is ∙ ap (λ r. length r.firsts) same);
    })

-- the layer's length is that of its file
layer_length : (job : CheckJob) (layer : List ℕ) (files now : Files)
    → ◌≡◌ {A = Option Files} (Some now) (Some (with_back job (text_of (checked_grid job)) (with_layer layer (with_grid (text_of (checked_grid job)) files))))
    → length (unwrap_or (now layer_job.dest) []) ≡ length layer
layer_length job layer files now is = ap (λ (o : Option Files). length (unwrap_or (at_dest o) [])) is
  where
    at_dest : Option Files → Option (List ℕ)
    at_dest None = None
    at_dest (Some fs) = fs layer_job.dest

-- what was counted over a folder that tells its files is what is printed
pub check_said : (job : CheckJob) (cells polygons bytes count : ℕ) (files now : Files) (answer : Result (Unit {0}) Trouble) (result : Result (Unit {0}) Fault) (before after : SinkState)
    → job.width * job.height ≤ most_cells → cells ≡ job.width * job.height → polygons ≡ count → bytes ≡ length (unwrap_or (now layer_job.dest) [])
    → HasChecked job files (Some now) → CountsComponents (checked_grid job) count
    → Says (check_lines cells polygons bytes) answer before after → result ≡ ends_with answer → EndsCheck job result before after
check_said job cells polygons bytes count files now answer result before after few cells_is polygons_is bytes_is (layer, is_layer, now_is) counts says ends =
    let long : bytes ≡ length layer = bytes_is ∙ layer_length job layer files now now_is in
    let lines : check_lines cells polygons bytes ≡ check_lines (job.width * job.height) count (length layer) =
    ap (λ (n : ℕ). check_lines n polygons bytes) cells_is
    ∙ ap (λ (n : ℕ). check_lines (job.width * job.height) n bytes) polygons_is
    ∙ ap (check_lines (job.width * job.height) count) long in
    inl (check_lines cells polygons bytes, answer, subst (λ (text : List ℕ). IsCheckAnswer job (Ok text)) (sym lines) (lines_are job layer count few is_layer counts), says, ends)

-- the end as a job's

abbrev Ends : CheckJob → Option Files → Result (Unit {0}) Fault → SinkState → SinkState → Type 0
Ends job files result before after = (printed : List ℕ) × IsPrinted (Ok (Check job)) (status_of result) printed
    × Prints printed (status_of result) before after
    × (IsDecided (status_of result) → IfSome files (λ fs. DoesPrinting (Check job) fs result printed files))

said : (job : CheckJob) (files : Option Files) (text : List ℕ) (answer : Result (Unit {0}) Trouble) (before after : SinkState) → IsCheckAnswer job (Ok text)
    → Says text answer before after → Ends job files (ends_with answer) before after
said job None text (Ok u) before after is says = (text, is, (Ok u, says, λ decided. refl), λ decided. tt)
said job (Some files) text (Ok u) before after is says = (text, is, (Ok u, says, λ decided. refl), λ decided. (text, is, refl, refl))
said job files text (Err trouble.Failed) before after is says = (text, inr is, (Err trouble.Failed, says, λ decided. absurd decided), λ decided. absurd decided)
said job files text (Err trouble.NoMemory) before after is says = (text, inr is, (Err trouble.NoMemory, says, λ decided. absurd decided), λ decided. absurd decided)

wanted_memory : (job : CheckJob) (files : Option Files) (out : SinkState) → Ends job files (Err fault.NoMemory) out out
wanted_memory job files out = ([], inl refl, prints_nothing status.NoMemory out, λ decided. absurd decided)

was_too_large : (job : CheckJob) (files : Option Files) (out : SinkState) → most_cells < job.width * job.height → Ends job files (Err (fault.Frame (TooLarge (job.width * job.height)))) out out
was_too_large job None out many = ([], inl refl, prints_nothing status.TooLarge out, λ decided. tt)
was_too_large job (Some files) out many = ([], inl refl, prints_nothing status.TooLarge out, λ decided. (many_answer job many, refl, refl))

pub check_ends : (job : CheckJob) (files : Option Files) (result : Result (Unit {0}) Fault) (before after : SinkState) → EndsCheck job result before after → Ends job files result before after
check_ends job files result before after (inl (text, answer, is, says, ends)) = subst (λ r. Ends job files r before after) (sym ends) (said job files text answer before after is says)
check_ends job files result before after (inr (same, inl ends)) =
    subst (λ r. Ends job files r before after) (sym ends) (subst (λ s. Ends job files (Err fault.NoMemory) before s) (sym same) (wanted_memory job files before))
check_ends job files result before after (inr (same, inr (many, ends))) =
    subst (λ r. Ends job files r before after) (sym ends)
    (subst (λ s. Ends job files (Err (fault.Frame (TooLarge (job.width * job.height)))) before s) (sym same) (was_too_large job files before many))

-- its causes

counts_as : {A B : Type 0} (old new : ℕ) → (A → B) → (B → A) → Counts A old new → Counts B old new
counts_as old new forth back counts = record { rose = λ b. counts.rose (back b); stood = λ none. counts.stood (λ a. none (forth a)); later = counts.later }

abbrev OutCauses : Result (Unit {0}) Fault → SinkState → SinkState → Type 0
OutCauses result before after = HasOutCauses (status_of result) before after

said_causes : (text : List ℕ) (answer : Result (Unit {0}) Trouble) (before after : SinkState) → Says text answer before after → OutCauses (ends_with answer) before after
said_causes text (Ok u) before after says = record {
  there = λ is. cc is;
  read = λ is. cc is;
  faults = counts_as before.faults after.faults (λ is. absurd (cc is)) (λ is. absurd (cc is)) says.leaves.faults;
}
said_causes text (Err trouble.Failed) before after says = record {
  there = λ is. cc is;
  read = λ is. cc is;
  faults = counts_as before.faults after.faults (λ is. refl) (λ is. refl) says.leaves.faults;
}
said_causes text (Err trouble.NoMemory) before after says = record {
  there = λ is. cc is;
  read = λ is. cc is;
  faults = counts_as before.faults after.faults (λ is. absurd (cc is)) (λ is. absurd (cc is)) says.leaves.faults;
}

stands : {A : Type 0} (n : ℕ) → ¬ A → Counts A n n
stands n none = record { rose = λ a. absurd (none a); stood = λ _. refl; later = omega arith }

quiet_causes : (s : Status) (out : SinkState) → s ≢ status.Missing → s ≢ status.ReadFault → s ≢ status.WriteFault → HasOutCauses s out out
quiet_causes s out there read written = record { there = there; read = read; faults = stands out.faults written }

pub check_causes : (job : CheckJob) (result : Result (Unit {0}) Fault) (before after : SinkState) → EndsCheck job result before after → HasOutCauses (status_of result) before after
check_causes job result before after (inl (text, answer, is, says, ends)) = subst (λ r. OutCauses r before after) (sym ends) (said_causes text answer before after says)
check_causes job result before after (inr (same, inl ends)) =
    subst (λ r. OutCauses r before after) (sym ends) (subst (λ s. HasOutCauses status.NoMemory before s) (sym same)
    (quiet_causes status.NoMemory before (λ is. cc is) (λ is. cc is) (λ is. cc is)))
check_causes job result before after (inr (same, inr (many, ends))) =
    subst (λ r. OutCauses r before after) (sym ends) (subst (λ s. HasOutCauses status.TooLarge before s) (sym same)
    (quiet_causes status.TooLarge before (λ is. cc is) (λ is. cc is) (λ is. cc is)))

-- where a write failed, it could have been done

done_if : (job : CheckJob) (files : Option Files) (text : List ℕ) → IsCheckAnswer job (Ok text) → IfSome files (CanBeDone (Check job))
done_if job None text is = tt
done_if job (Some files) text is = (text, is)

pub check_can : (job : CheckJob) (files : Option Files) (result : Result (Unit {0}) Fault) (before after : SinkState) → EndsCheck job result before after
    → status_of result ≡ status.WriteFault → IfSome files (CanBeDone (Check job))
check_can job files result before after (inl (text, answer, is, says, ends)) failed = done_if job files text is
check_can job files result before after (inr (same, inl ends)) failed = absurd (other (ap (λ r. status_of r) (sym ends) ∙ failed))
  where
    other : status.NoMemory ≢ status.WriteFault
    other is = cc is
check_can job files result before after (inr (same, inr (many, ends))) failed = absurd (other (ap (λ r. status_of r) (sym ends) ∙ failed))
  where
    other : status.TooLarge ≢ status.WriteFault
    other is = cc is

-- all files stay
pub check_leaves : (job : CheckJob) (files : Option Files) (result : Result (Unit {0}) Fault) → OnErr result (IfSome files (λ fs. LeavesPart (Check job) fs files))
check_leaves job files (Ok u) = tt
check_leaves job None (Err offence) = tt
check_leaves job (Some files) (Err offence) = inl refl

-- the same of a job that is one of check

pub check_for : (job : Job) (made : CheckJob) (files : Option Files) (result : Result (Unit {0}) Fault) (before after : SinkState) → job ≡ Check made → EndsCheck made result before after
    → (printed : List ℕ) × IsPrinted (Ok job) (status_of result) printed × Prints printed (status_of result) before after
    × (IsDecided (status_of result) → IfSome files (λ fs. DoesPrinting job fs result printed files))
check_for job made files result before after is ends =
    subst (λ j. (printed : List ℕ) × IsPrinted (Ok j) (status_of result) printed × Prints printed (status_of result) before after
    × (IsDecided (status_of result) → IfSome files (λ fs. DoesPrinting j fs result printed files))) (sym is) (check_ends made files result before after ends)
