use Rattle.std.proofs.Common.{◌≡◌, ◌<◌, ◌∷◌, suc, List, ℕ, add-one, ap, arith, drop, drop-cons, get_or, length, rules, sym, take, ◌∙◌}
use Rattle.std.proofs.lemmas.List.{drop_all}
use Rattle.fixed_coord.proofs.WriteLemmas.{front_of_front, still_front}
use Rattle.wkt_text.specs.Spelling.{path_text}
use Rattle.wkt_text.proofs.WriteLemmas.{all_written, member_written, none_written}
use Rattle.wkt_text.proofs.write.write_paths.Goals as goal

pub members-init : goal.members-init
members-init c = none_written path_text c.args.paths.now c.args.out.now.items c.requires.some

pub returns-in_err-push-clause-err : goal.returns-in_err-push-clause-err
returns-in_err-push-clause-err c =
    let before : List ℕ = c.args.out.now.items in
    let kept : take (length before) c.push.new.self.items ≡ before =
    ap (take (length before)) c.in_err-push.ensures.items ∙ c.members.invariant.front in
    search (rules, kept)

pub returns-in_err-write_path-clause-err : goal.returns-in_err-write_path-clause-err
returns-in_err-write_path-clause-err c =
    let before : List ℕ = c.args.out.now.items in
    let marked : take (length before) c.push.new.self.items ≡ before =
    ap (take (length before)) c.in_ok-push.ensures.items
    ∙ still_front before c.members.out.items _ c.members.invariant.front in
    let kept : take (length before) c.write_path.new.out.items ≡ before =
    front_of_front before c.push.new.self.items c.write_path.new.out.items marked c.in_err-write_path.ensures.err in
    search (rules, kept)

pub members-preserved : goal.members-preserved
members-preserved c =
    let members = c.args.paths.now in
    let at = c.members.member-index in
    let member = c.member-item.result in
    let within : at < length members = omega (arith, ap length c.as_slice-member-items.ensures) in
    let is : member ≡ get_or members at member =
    c.member-item.is ∙ ap (λ members. get_or members at member) c.as_slice-member-items.ensures in
    let next : drop at members ≡ member ∷ drop (suc at) members =
    drop-cons members at member within ∙ ap (λ first. first ∷ drop (suc at) members) (sym is) in
    rw add-one
    (member_written member (drop (suc at) members) c.push.new.self.items c.write_path.new.out.items
    c.members.invariant next c.in_ok-push.ensures.items c.in_ok-write_path.ensures.ok)

pub returns-in_err-push-2-clause-err : goal.returns-in_err-push-2-clause-err
returns-in_err-push-2-clause-err c =
    let before : List ℕ = c.args.out.now.items in
    let kept : take (length before) c.push-2.new.self.items ≡ before =
    ap (take (length before)) c.in_err-push-2.ensures.items ∙ c.members.invariant.front in
    search (rules, kept)

pub returns-clause-ok : goal.returns-clause-ok
returns-clause-ok c =
    let none = drop_all c.members.member-index c.args.paths.now (omega (arith, ap length c.as_slice-member-items.ensures)) in
    all_written c.push-2.new.self.items c.members.invariant none c.in_ok-push-2.ensures.items
