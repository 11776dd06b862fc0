-- The text of check is one.
use Rattle.std.proofs.Common.{◌≡◌, ◌∙◌, ◌*◌, ℕ, ℤ, List, Result, Ok, Err, length, sym, ap}
use Rattle.cell_base.specs.Steps.{four}
use Rattle.asc_grid.specs.declared.grid.Asc.{Asc}
use Rattle.tool_words.specs.declared.job.CheckJob.{CheckJob}
use Rattle.tool_outcome.specs.Answer.{Answer, AnswersBy}
use Rattle.tool_outcome.specs.Check.{IsCheckAnswer, IsCheckText, check_lines, grid_to_check, layer_job}
use Rattle.tool_outcome.specs.declared.fault.Fault.{Fault}
use Rattle.tool_outcome.proofs.PolygonizeLemmas.{one_layer, one_table}

one_text : (job : CheckJob) (asc : Asc ℤ) (a b : List ℕ) → IsCheckText job asc a → IsCheckText job asc b → a ≡ b
one_text job asc a b one two =
    let first = one.is_layer in
    let second = two.is_layer in
    let layer : one.layer ≡ two.layer = one_layer layer_job asc one.layer two.layer first second in
    let count : length first.regions.firsts ≡ length second.regions.firsts =
    ap (λ r. length r.firsts) (one_table four asc first.valid second.valid first.regions second.regions first.mask second.mask first.labelled second.labelled) in
    let cells : ℕ = job.width * job.height in
    one.is
    ∙ ap (λ n. check_lines cells n (length one.layer)) count
    ∙ ap (λ (text : List ℕ). check_lines cells (length second.regions.firsts) (length text)) layer
    ∙ sym two.is

one_by : (job : CheckJob) (grid : Result (Asc ℤ) Fault) (a b : Answer) → AnswersBy (IsCheckText job) grid a → AnswersBy (IsCheckText job) grid b → a ≡ b
one_by job (Err fault) a b one two = one ∙ sym two
one_by job (Ok asc) (Err fault) b one two = absurd one
one_by job (Ok asc) (Ok text) (Err fault) one two = absurd two
one_by job (Ok asc) (Ok text) (Ok other) one two = ap Ok (one_text job asc text other one two)

-- the answer is one
pub one_answer : (job : CheckJob) (a b : Answer) → IsCheckAnswer job a → IsCheckAnswer job b → a ≡ b
one_answer job a b one two = one_by job (grid_to_check job) a b one two
