use Rattle.std.proofs.Common.{◌≡◌, ℕ, Option, None, length, replicate, ap, sym, ◌∙◌, rules, arith}
use Rattle.std.proofs.lemmas.List.{length-replicate}
use Rattle.region_label.proofs.lists.RunLists.make.Goals as goal

pub returns-clause-sized : goal.returns-clause-sized
returns-clause-sized c =
    let made : c.in_ok-components.components.items ≡ replicate c.args.count None = search rules in
    let zeros : c.in_ok-firsts.firsts.items ≡ replicate c.args.count 0 = search rules in
    let end : c.links.run ≡ c.args.count = omega (arith, c.links-test.false, c.links.auto.run-end) in
    record {
      components = ap length made ∙ length-replicate {A = Option ℕ} c.args.count None;
      links = c.links.invariant.sized ∙ end;
      firsts = ap length zeros ∙ length-replicate c.args.count 0;
    }

pub returns-clause-clear : goal.returns-clause-clear
returns-clause-clear c =
    let made : c.in_ok-components.components.items ≡ replicate c.args.count None = search rules in
    let sized : length c.in_ok-components.components.items ≡ c.args.count = ap length made ∙ length-replicate {A = Option ℕ} c.args.count None in
    record {
      components = made ∙ ap (λ (n : ℕ). replicate n None) (sym sized);
      links = c.links.invariant.each;
    }
