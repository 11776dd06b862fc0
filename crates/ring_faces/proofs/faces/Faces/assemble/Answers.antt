use Rattle.std.proofs.Common.{◌≡◌, ◌∙◌, ℕ, List, ap, false, length, sym, subst}
use Rattle.std.specs.Prelude.{Contains, replicate}
use Rattle.edge_trace.specs.EdgeTable.{EdgeTable}
use Rattle.ring_faces.specs.declared.cycles.Cycle.{Cycle}
use Rattle.ring_faces.specs.Inner.Cycles.{AreAllCycles}
use Rattle.ring_faces.specs.Inner.Lattice.{HaveNumbers, IsWidth}
use Rattle.ring_faces.specs.Inner.Tables.{IsLinkedTable}
use Rattle.ring_faces.specs.Inner.Chains.{AreRings, ring_at}
use Rattle.ring_faces.proofs.FitLemmas.{have_numbers}
use Rattle.ring_faces.proofs.ListedLemmas.{assembled_faces, assembled_polygons, cycles_begin, known_so_far, links_table}
use Rattle.ring_faces.proofs.faces.Faces.assemble.Goals as goal

pub of-requires : goal.of-requires
of-requires c =
    let regions = c.args.regions.now in
    let width = c.of-lattice.result.width in
    let table : c.args.edges ≡ c.of-walks.result.table = sym c.of-walks.ensures.table in
    let wide : IsWidth regions.numbers.ncols width = subst (λ (n : ℕ). IsWidth n width) c.ncols.ensures.value c.of-lattice.ensures in
    record {
      linked = subst IsLinkedTable table (links_table regions c.args.edges c.requires.edges);
      numbers = subst (HaveNumbers width) table (have_numbers regions c.args.edges width c.requires.sides.shape c.requires.edges.holds wide);
      none = c.of-walks.ensures.none ∙ ap (λ (t : EdgeTable). replicate (length t.edges) false) table;
    }

pub make-requires-clause-begin : goal.make-requires-clause-begin
make-requires-clause-begin c = λ cycle member.
    let table : c.args.edges ≡ c.of.new.walks.table = sym (c.of.ensures.table ∙ c.of-walks.ensures.table) in
    let linked = subst IsLinkedTable table (links_table c.args.regions.now c.args.edges c.requires.edges) in
    let all = subst (λ (t : EdgeTable). AreAllCycles t.next c.in_ok-cycles.field-0.cycles.items) (sym c.of.ensures.table)
    (c.in_ok-cycles.ensures {u = tt}).all in
    cycles_begin c.of.new.walks.table c.in_ok-cycles.field-0.cycles.items linked all cycle
    (subst (λ (cs : List Cycle). Contains cs cycle) c.deref.ensures.value member)

pub invariant_of-result : goal.invariant_of-result
invariant_of-result c =
    let found = c.in_ok-cycles.field-0 in
    let of_cycles = c.in_ok-cycles.ensures {u = tt} in
    let known = known_so_far c.args.regions.now c.args.edges c.of-walks.result.table c.of.new.walks.table found.cycles.items c.deref.result.now c.in_ok-lists.lists
    c.requires.edges c.requires.order c.requires.sides c.of-walks.ensures.table c.of.ensures.table c.deref.ensures.value of_cycles.all (c.in_ok-lists.ensures {u = tt}) in
    assembled_faces c.args.regions.now c.args.edges found.cycles.items c.in_ok-lists.lists found.rings known
    (subst (λ (t : EdgeTable). AreRings found.rings.lattice.width t found.cycles.items found.rings.corners.items found.rings.starts.items) c.of-walks.ensures.table of_cycles.rings)

pub returns : goal.returns
returns c =
    let found = c.in_ok-cycles.field-0 in
    let of_cycles = c.in_ok-cycles.ensures {u = tt} in
    let known = known_so_far c.args.regions.now c.args.edges c.of-walks.result.table c.of.new.walks.table found.cycles.items c.deref.result.now c.in_ok-lists.lists
    c.requires.edges c.requires.order c.requires.sides c.of-walks.ensures.table c.of.ensures.table c.deref.ensures.value of_cycles.all (c.in_ok-lists.ensures {u = tt}) in
    let rings = subst (λ (t : EdgeTable). AreRings found.rings.lattice.width t found.cycles.items found.rings.corners.items found.rings.starts.items) c.of-walks.ensures.table of_cycles.rings in
    assembled_polygons c.args.regions.now c.args.edges found.cycles.items c.in_ok-lists.lists (ring_at found.rings) known rings.each
