use Rattle.wkt_text.specs.Grammar.{member_point, path, point, polygon, ring}
use Rattle.wkt_text.proofs.ListedLemmas.{listed_step, member_some, path_some, point_some, polygon_some, ring_some}
use Rattle.wkt_text.proofs.laws.lists_have_no_bound.Goals as goal

pub returns-clause-points : goal.returns-clause-points
returns-clause-points c = listed_step point point_some

pub returns-clause-members : goal.returns-clause-members
returns-clause-members c = listed_step member_point member_some

pub returns-clause-paths : goal.returns-clause-paths
returns-clause-paths c = listed_step path path_some

pub returns-clause-rings : goal.returns-clause-rings
returns-clause-rings c = listed_step ring ring_some

pub returns-clause-polygons : goal.returns-clause-polygons
returns-clause-polygons c = listed_step polygon polygon_some
