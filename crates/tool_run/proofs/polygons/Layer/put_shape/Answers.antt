use Rattle.std.proofs.Common.{◌≡◌, ◌≢◌, ◌∙◌, ◌<◌, All, length, ap, arith, sym, subst}
use Rattle.std.proofs.lemmas.Grind.{common_steps}
use Rattle.std.proofs.lemmas.List.{get_or_default}
use Rattle.std.proofs.lemmas.Result.{on_ok_weaker}
use Rattle.wkt_text.specs.Spelling.{wkt}
use Rattle.tool_run.specs.Inner.Layer.{part_shape, parts_shape}
use Rattle.tool_run.proofs.LayerLemmas.{many_shape, one_shape, own_number, own_shape, part_within}
use Rattle.tool_run.proofs.polygons.Layer.put_shape.Goals as goal

pub put_polygon-requires-clause-j : goal.put_polygon-requires-clause-j
put_polygon-requires-clause-j c = own_number c.args.self.now c.args.k c.in_default.is c.requires.rows.sized c.requires.k

pub returns-in_default-clause-text : goal.returns-in_default-clause-text
returns-in_default-clause-text c =
    let layer = c.args.self.now in
    on_ok_weaker c.put_polygon.result
    (λ written. (part_shape layer c.args.k, own_shape layer c.args.k c.in_default.is c.requires.rows.sized c.requires.k, written))
    c.put_polygon.ensures.text

pub put_polygon-requires-then-len-eq1-clause-j : goal.put_polygon-requires-then-len-eq1-clause-j
put_polygon-requires-then-len-eq1-clause-j c =
    let layer = c.args.self.now in
    let numbers = c.list.new.out.items in
    let long : length numbers ≡ 1 = grind (arith, common_steps, c.if-len-eq1.true, c.len.ensures) in
    let within = part_within layer.faces layer.parts c.in-Some.parts c.args.k numbers c.requires.rows.among c.in-Some.is (c.in_ok-list.ensures {u = tt}) in
    rw c.index.ensures (within 0 c.index.result.now (omega (arith, long)))

pub returns-then-len-eq1-clause-text : goal.returns-then-len-eq1-clause-text
returns-then-len-eq1-clause-text c =
    let layer = c.args.self.now in
    let numbers = c.list.new.out.items in
    let j = c.index.result.now in
    let long : length numbers ≡ 1 = grind (arith, common_steps, c.if-len-eq1.true, c.len.ensures) in
    let is = c.index.ensures ∙ get_or_default numbers 0 j 0 (omega (arith, long)) in
    let shape = one_shape layer c.args.k j c.in-Some.parts numbers c.in-Some.is (c.in_ok-list.ensures {u = tt}) long is in
    on_ok_weaker c.put_polygon-then-len-eq1.result (λ written. (part_shape layer j, shape, written)) c.put_polygon-then-len-eq1.ensures.text

pub put_multipolygon-requires-clause-parts : goal.put_multipolygon-requires-clause-parts
put_multipolygon-requires-clause-parts c =
    let layer = c.args.self.now in
    subst (All (λ j. j < length layer.faces)) (sym c.deref.ensures.value) (part_within layer.faces layer.parts c.in-Some.parts c.args.k c.list.new.out.items c.requires.rows.among c.in-Some.is (c.in_ok-list.ensures {u = tt}))

pub returns-clause-text : goal.returns-clause-text
returns-clause-text c =
    let layer = c.args.self.now in
    let numbers = c.list.new.out.items in
    let long : length numbers ≢ 1 = λ one. c.if-len-eq1.false (grind (arith, common_steps, c.len.ensures, one)) in
    let shape = many_shape layer c.args.k c.in-Some.parts numbers c.in-Some.is (c.in_ok-list.ensures {u = tt}) long in
    on_ok_weaker c.put_multipolygon.result
    (λ written. (parts_shape layer numbers, shape, written ∙ ap (λ parts. wkt (parts_shape layer parts)) c.deref.ensures.value))
    c.put_multipolygon.ensures.text
