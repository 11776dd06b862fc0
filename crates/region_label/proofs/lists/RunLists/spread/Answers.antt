use Rattle.std.proofs.Common.{◌≡◌, ◌-◌, ◌<◌, ℕ, length, ap, ◌∙◌, subst, arith}
use Rattle.region_label.specs.Inner.Blocks.{IsPut, numbers_of}
use Rattle.region_label.proofs.SpreadLemmas.{AreSpread, block_known, block_numbered, spread_before, spread_filled, spread_none, spread_on}
use Rattle.region_label.proofs.lists.RunLists.spread.Goals as goal

pub runs-init : goal.runs-init
runs-init g c =
    let rows = c.args.rows.now in
    let kept = c.firsts.invariant in
    let sized = c.requires.filled.sized in
    let end : c.len-end.result ≡ length rows.runs.items = cc (rows.runs.ok.0, c.len-end.ensures) in
    let at : c.len-at.result ≡ length rows.runs.items = cc (rows.runs.ok.0, c.len-at.ensures) in
    let none = spread_none (numbers_of rows) c.args.self.now c.firsts.self (length rows.runs.items) (record {
      components = ap (λ v. length v.items) kept.components ∙ sized.components;
      links = ap (λ v. length v.items) kept.links ∙ sized.links;
      firsts = kept.sized ∙ sized.firsts;
    }) kept.count (ap (λ v. v.items) kept.components) (λ k less. rw (← end) (kept.none k (omega (arith, less, kept.count, c.firsts-test.false)))) in
    record {
      spread = rw at none;
      within = omega (arith, at);
    }

pub put-requires-clause-numbered : goal.put-requires-clause-numbered
put-requires-clause-numbered g c =
    let rows = c.args.rows.now in
    let some : 0 < c.runs.at = omega (arith, c.runs-test.true) in
    block_numbered _ rows c.args.self.now c.runs.self (c.runs.at - 1) c.requires.blocks c.requires.filled (spread_before (numbers_of rows) c.args.self.now c.runs.self (length rows.runs.items) c.runs.at c.runs.invariant.spread some) (omega (arith, some, c.runs.invariant.within))

pub put-requires-clause-known : goal.put-requires-clause-known
put-requires-clause-known g c = λ k is.
    let rows = c.args.rows.now in
    let some : 0 < c.runs.at = omega (arith, c.runs-test.true) in
    block_known _ rows c.args.self.now c.runs.self (c.runs.at - 1) k c.requires.blocks c.requires.filled (spread_before (numbers_of rows) c.args.self.now c.runs.self (length rows.runs.items) c.runs.at c.runs.invariant.spread some) (omega (arith, some, c.runs.invariant.within)) is

pub runs-preserved : goal.runs-preserved
runs-preserved g c =
    let rows = c.args.rows.now in
    let some : 0 < c.runs.at = omega (arith, c.runs-test.true) in
    let end : c.len-end.result ≡ length rows.runs.items = cc (rows.runs.ok.0, c.len-end.ensures) in
    record {
      spread = spread_on _ rows c.args.self.now c.runs.self c.put.new.self (c.runs.at - 1) c.requires.blocks c.requires.filled (spread_before (numbers_of rows) c.args.self.now c.runs.self (length rows.runs.items) c.runs.at c.runs.invariant.spread some) (omega (arith, some, c.runs.invariant.within)) (λ k next is at_next. subst (λ (n : ℕ). IsPut n (c.runs.at - 1) k next c.runs.self c.put.new.self) end (c.put.ensures k next is at_next));
      within = omega (arith, c.runs.invariant.within);
    }

pub returns : goal.returns
returns g c =
    let rows = c.args.rows.now in
    let first : c.runs.at ≡ 0 = omega (arith, c.runs-test.false) in
    let all : AreSpread (numbers_of rows) c.args.self.now c.runs.self (length rows.runs.items) 0 = subst (λ (n : ℕ). AreSpread (numbers_of rows) c.args.self.now c.runs.self (length rows.runs.items) n) first c.runs.invariant.spread in
    spread_filled _ rows c.args.self.now c.runs.self c.requires.blocks c.requires.filled all
