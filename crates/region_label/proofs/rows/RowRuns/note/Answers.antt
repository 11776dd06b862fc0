use Rattle.std.proofs.Common.{refl, ap, sym, ◌∙◌}
use Rattle.std.proofs.Math.Seq.{map-set_same}
use Rattle.std.proofs.lemmas.Option.{same_Some}
use Rattle.region_label.specs.declared.rows.RunNote.{RunNote}
use Rattle.region_label.proofs.ListLemmas.{slice_get-set_other, slice_get-set_same}
use Rattle.region_label.proofs.rows.RowRuns.note.Goals as goal

pub returns-clause-keeps : goal.returns-clause-keeps
returns-clause-keeps c = record {
  ncols = refl;
  nrows = refl;
  runs = refl;
  units = map-set_same (λ (note : RunNote). note.units) c.args.self.now.notes.items c.args.run _ c.index-note.result.now (ap (λ (note : RunNote). note.units) c.index-note.ensures);
  starts = refl;
  blocks = refl;
}

pub returns-clause-notes : goal.returns-clause-notes
returns-clause-notes c =
    let notes = c.args.self.now.notes.items in
    let written : RunNote = record { units = c.index-note.result.now.units; above = c.args.above; below = c.args.below } in
    record {
      note = λ note at.
          let same = same_Some written note (sym (slice_get-set_same notes c.args.run written c.requires) ∙ at) in
          (sym (ap (λ (n : RunNote). n.above) same), sym (ap (λ (n : RunNote). n.below) same));
      others = λ i other. slice_get-set_other notes c.args.run i written other;
    }
