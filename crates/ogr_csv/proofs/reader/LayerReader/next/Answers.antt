use Rattle.std.proofs.Common.{◌≡◌, [], ◌∷◌, subst, sym, Err}
use Rattle.ogr_csv.specs.Inner.Left.{IsRecordFault}
use Rattle.ogr_csv.specs.Next.{Answers, IsFaultOf}
use Rattle.ogr_csv.proofs.FaultLemmas.{fault_again, record_fault}
use Rattle.ogr_csv.proofs.reader.LayerReader.next.Goals as goal

pub returns-in-Refused-clause-answer : goal.returns-in-Refused-clause-answer
returns-in-Refused-clause-answer c =
    let fault = c.in-Refused.fault in
    let left : c.args.self.now ≡ Err fault ∷ [] = sym (rw c.in-Refused.is at c.self.view_is) in
    let is : IsRecordFault fault = rw c.in-Refused.is at c.self.invariant in
    (subst (λ (answers : Answers). IsFaultOf answers fault) (sym left) (fault_again fault is), left)
