use Rattle.std.proofs.Common.{◌≡◌, ◌<◌, ℕ, false, get_or, length, arith, refl}
use Rattle.std.proofs.lemmas.List.{get_or_past}
use Rattle.std.proofs.lemmas.Grind.{common_steps}
use Rattle.asc_grid.specs.Tokens.{is_blank}
use Rattle.asc_grid.proofs.TokenLemmas.{line_behind-token, no_token-drop, token_up_to}
use Rattle.asc_grid.proofs.tokens.token_len.Goals as goal

pub returns-then-is_blank-clause-first : goal.returns-then-is_blank-clause-first
returns-then-is_blank-clause-first c = λ line. token_up_to line c.args.text.now c.loop-at.at c.requires (omega arith) c.loop-at.invariant (no_token-drop c.args.text.now c.loop-at.at (grind (arith, common_steps)))

pub returns-then-is_blank-clause-line : goal.returns-then-is_blank-clause-line
returns-then-is_blank-clause-line c = λ line. line_behind-token line c.args.text.now c.loop-at.at c.loop-at.invariant (omega arith)

pub returns-clause-first : goal.returns-clause-first
returns-clause-first c = λ line.
    let solid : (k : ℕ) → k < length c.args.text.now → is_blank (get_or c.args.text.now k 0) ≡ false = λ k h. c.loop-at.invariant k (omega (arith, h)) in
    let past : get_or c.args.text.now (length c.args.text.now) 32 ≡ 32 = get_or_past c.args.text.now _ 32 (omega arith) in
    token_up_to line c.args.text.now _ c.requires (omega arith) solid (no_token-drop c.args.text.now _ (rw past refl))

pub returns-clause-line : goal.returns-clause-line
returns-clause-line c = λ line.
    let solid : (k : ℕ) → k < length c.args.text.now → is_blank (get_or c.args.text.now k 0) ≡ false = λ k h. c.loop-at.invariant k (omega (arith, h)) in
    line_behind-token line c.args.text.now _ solid (omega arith)
