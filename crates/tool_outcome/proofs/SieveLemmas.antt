-- The answer of gdal_sieve is one.
use Rattle.std.proofs.Common.{◌≡◌, ◌∙◌, ◌≤◌, ℤ, Bool, true, false, Result, Ok, Err, refl, sym, ap, subst, arith}
use Rattle.std.specs.Prelude.{nat_le}
use Rattle.std.proofs.lemmas.Bool.Decides.{nat_tests}
use Rattle.cell_base.specs.Raster.{Raster}
use Rattle.asc_grid.specs.declared.grid.Asc.{Asc}
use Rattle.sieve_core.specs.Sieve.{IsSieved}
use Rattle.sieve_core.proofs.KeepsLemmas.{keeps_all}
use Rattle.sieve_core.proofs.OneSieveLemmas.{one_sieved}
use Rattle.tool_words.specs.declared.job.SieveJob.{SieveJob}
use Rattle.tool_outcome.specs.Answer.{Answer, AnswersBy}
use Rattle.tool_outcome.specs.Sieve.{AgreesWithSieve, AreSieved, IsMaskOf, IsSievedText}
use Rattle.tool_outcome.specs.Source.{text_of}
use Rattle.tool_outcome.specs.declared.fault.Fault.{Fault}
use Rattle.tool_outcome.proofs.MaskLemmas.{one_mask}

sieved_cells : (small : Bool) (job : SieveJob) (asc : Asc ℤ) (a b : Raster ℤ) → AreSieved small job asc a → AreSieved small job asc b → a ≡ b
sieved_cells true job asc a b one two = one ∙ sym two
sieved_cells false job asc a b one two =
    let same = one_mask asc one.0 two.0 one.1 two.1 in
    one_sieved job.eight asc.cells a b one.0 job.st one.2 (subst (λ valid. IsSieved job.eight asc.cells valid job.st b) same two.2)

-- the answer is one
pub one_answer : (job : SieveJob) (source : Result (Asc ℤ) Fault) (a b : Answer) → AnswersBy (IsSievedText job) source a → AnswersBy (IsSievedText job) source b → a ≡ b
one_answer job (Err fault) a b one two = one ∙ sym two
one_answer job (Ok asc) (Err fault) b one two = absurd one
one_answer job (Ok asc) (Ok text) (Err fault) one two = absurd two
one_answer job (Ok asc) (Ok text) (Ok other) one two =
    let cells = sieved_cells (nat_le job.st 1) job asc one.0 two.0 one.1 two.1 in
    ap Ok (one.2 ∙ ap (λ cells. text_of (record asc { cells = cells })) cells ∙ sym two.2)

by_threshold : (small : Bool) (job : SieveJob) (asc : Asc ℤ) (valid : Raster Bool) (sieved cells : Raster ℤ) → nat_le job.st 1 ≡ small → IsMaskOf asc valid → IsSieved job.eight asc.cells valid job.st sieved → AreSieved small job asc cells → cells ≡ sieved
by_threshold true job asc valid sieved cells low mask is are =
    let least : job.st ≤ 1 = grind (arith, nat_tests, low) in
    are ∙ sym (keeps_all job.eight asc.cells sieved valid job.st least is)
by_threshold false job asc valid sieved cells high mask is are =
    let same = one_mask asc are.0 valid are.1 mask in
    one_sieved job.eight asc.cells cells sieved are.0 job.st are.2 (subst (λ v. IsSieved job.eight asc.cells v job.st sieved) same is)

pub agrees : (job : SieveJob) (asc : Asc ℤ) → AgreesWithSieve job asc
agrees job asc valid sieved cells mask is are = by_threshold (nat_le job.st 1) job asc valid sieved cells refl mask is are
