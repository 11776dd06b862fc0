use Rattle.std.proofs.Common.{◌≡◌, Bool, Option, sym, subst}
use Rattle.cell_base.specs.Raster.{Place, Raster, value_at}
use Rattle.cell_base.specs.Walk.{IsJoined}
use Rattle.cell_base.specs.Valid.{IsMarked}
use Rattle.cell_base.proofs.WalkLemmas.{joined_end, joined_itself, joined_sym, joined_trans}
use Rattle.region_label.specs.Component.{HasValue, InComponent}

-- each cell of a component is valid and has its value
pub component_end : {T : Type 0} (connectivity : Bool) (cells : Raster T) (valid : Raster Bool) (a b : Place) → InComponent connectivity cells valid a b → HasValue cells valid (value_at cells a) b
component_end connectivity cells valid a b ab = joined_end connectivity (HasValue cells valid (value_at cells a)) a b ab

pub component_itself : {T : Type 0} (connectivity : Bool) (cells : Raster T) (valid : Raster Bool) (a : Place) → IsMarked valid a → InComponent connectivity cells valid a a
component_itself connectivity cells valid a marked = joined_itself connectivity (HasValue cells valid (value_at cells a)) a (marked, refl_value)
  where
    refl_value : value_at cells a ≡ value_at cells a
    refl_value = cc

-- a walk between the same cells under another name of their value
pub same_value : {T : Type 0} (connectivity : Bool) (cells : Raster T) (valid : Raster Bool) (v w : Option T) (a b : Place) → v ≡ w → IsJoined connectivity (HasValue cells valid v) a b → IsJoined connectivity (HasValue cells valid w) a b
same_value {T} connectivity cells valid v w a b same joined = subst (λ (u : Option T). IsJoined connectivity (HasValue cells valid u) a b) same joined

pub component_sym : {T : Type 0} (connectivity : Bool) (cells : Raster T) (valid : Raster Bool) (a b : Place) → InComponent connectivity cells valid a b → InComponent connectivity cells valid b a
component_sym connectivity cells valid a b ab =
    let same : value_at cells b ≡ value_at cells a = (component_end connectivity cells valid a b ab).1 in
    same_value connectivity cells valid (value_at cells a) (value_at cells b) b a (sym same) (joined_sym connectivity (HasValue cells valid (value_at cells a)) a b ab)

pub component_trans : {T : Type 0} (connectivity : Bool) (cells : Raster T) (valid : Raster Bool) (a b c : Place) → InComponent connectivity cells valid a b → InComponent connectivity cells valid b c → InComponent connectivity cells valid a c
component_trans connectivity cells valid a b c ab bc =
    let same : value_at cells b ≡ value_at cells a = (component_end connectivity cells valid a b ab).1 in
    joined_trans connectivity (HasValue cells valid (value_at cells a)) a b c ab (same_value connectivity cells valid (value_at cells b) (value_at cells a) b c same bc)
