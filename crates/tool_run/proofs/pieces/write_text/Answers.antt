use Rattle.std.proofs.Common.{◌++◌, rules, arith, sym, ap, ◌∙◌, append_assoc}
use Rattle.rv_outside.proofs.FilesLemmas.{made_then}
use Rattle.tool_run.proofs.DestLemmas.{part_written, more_written}
use Rattle.tool_run.proofs.pieces.write_text.Goals as goal

pub returns-in_err-next-clause-part : goal.returns-in_err-next-clause-part
returns-in_err-next-clause-part g c =
    let left = g.P.Pieces.left in
    let inv = c.pieces.invariant.written in
    let part = part_written _ _ c.args.name.now (left c.args.text.now) inv.0 (left c.pieces.text) inv.1 inv.2 in
    grind (arith, part)

pub pieces-preserved : goal.pieces-preserved
pieces-preserved g c =
    let inv = c.pieces.invariant in
    let piece = c.next.new.piece.items in
    record {
      written = (inv.written.0 ++ piece, inv.written.1 ∙ ap (λ xs. inv.written.0 ++ xs) c.in_ok-next.ensures.ok ∙ sym (append_assoc inv.written.0 piece (g.P.Pieces.left c.next.new.self)), made_then _ _ _ c.args.name.now inv.written.0 piece inv.written.2 (rw c.deref.ensures.value at c.in_ok-append_all.ensures.added));
      write_faults = search rules;
      read_faults = search rules;
      missing = search rules;
    }

pub returns-in_err-append_all-clause-part : goal.returns-in_err-append_all-clause-part
returns-in_err-append_all-clause-part g c =
    let left = g.P.Pieces.left in
    let inv = c.pieces.invariant.written in
    let piece = c.next.new.piece.items in
    let err = rw c.deref.ensures.value at c.in_err-append_all.ensures.part in
    let part = more_written _ _ _ c.args.name.now (left c.args.text.now) inv.0 piece (left c.next.new.self) err.0 (inv.1 ∙ ap (λ xs. inv.0 ++ xs) c.in_ok-next.ensures.ok) inv.2 err.2 in
    grind (arith, part)
