use Rattle.std.proofs.Common.{arith, ◌≡◌, ◌%◌, ◌∙◌, ap, rules, List, ℕ, take, length, ◌∷◌, []}
use Rattle.std.proofs.Math.Seq.{take-append_seam}
use Rattle.std.specs.Fmt.{decimal}
use Rattle.fixed_coord.proofs.CutLemmas.{pow10_pos}
use Rattle.fixed_coord.proofs.WriteLemmas.{front_of_front, still_front}
use Rattle.fixed_coord.proofs.write.append_size.Goals as goal

pub split_size-whole-requires : goal.split_size-whole-requires
split_size-whole-requires c = omega (arith, c.pow-scale.ensures, pow10_pos c.args.places)

pub append_decimals-requires-clause-rest : goal.append_decimals-requires-clause-rest
append_decimals-requires-clause-rest c = omega (arith, ap (λ x. c.args.size % x) c.pow-scale.ensures, c.split_size-whole.ensures.rest, pow10_pos c.args.places)

pub returns-in_err-append_decimals-clause-err : goal.returns-in_err-append_decimals-clause-err
returns-in_err-append_decimals-clause-err c =
    let old : List ℕ = c.args.out.now.items in
    let first : take (length old) c.append_whole.new.out.items ≡ old = ap (take (length old)) c.in_ok-append_whole.ensures.ok ∙ take-append_seam old (decimal c.split_size-whole.result.0) in
    let second : take (length old) c.push.new.self.items ≡ old = ap (take (length old)) c.in_ok-push.ensures.items ∙ still_front old c.append_whole.new.out.items (46 ∷ []) first in
    let kept : take (length old) c.append_decimals.new.out.items ≡ old = front_of_front old c.push.new.self.items c.append_decimals.new.out.items second c.in_err-append_decimals.ensures.err in
    search (rules, kept)
