use Rattle.region_label.proofs.TableLemmas.{filled}
use Rattle.region_label.proofs.UnitsLemmas.{refilled}
use Rattle.region_label.proofs.WalkOfLemmas.{table_kept}
use Rattle.region_label.proofs.table.RunTable.fill.Goals as goal

pub invariant_of-self : goal.invariant_of-self
invariant_of-self g c = table_kept _ c.self.inside.rows c.self.inside.lists c.fill.new.self c.self.invariant c.fill.ensures

pub returns-clause-filled : goal.returns-clause-filled
returns-clause-filled g c = λ cells valid is.
    let whole = refilled cells valid c.self.inside.rows c.self.inside.lists c.fill.new.self (rw (← c.self.view_is) at is) in
    filled _ cells valid c.self.inside.rows c.fill.new.self (record {
      table = whole;
      order = c.self.invariant.order;
      filled = c.fill.ensures;
    })
