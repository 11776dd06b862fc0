use Rattle.std.proofs.Common.{Bool, List, [], ◌∷◌, ◌++◌, refl, sym}
use Rattle.cell_base.specs.Raster.{Place}
use Rattle.cell_base.specs.Steps.{IsStep}
use Rattle.cell_base.specs.Walk.{IsWalk, StepsInto, IsJoined}
use Rattle.cell_base.proofs.StepsLemmas.{step_back}

-- a walk and one that goes on from its end are one walk
pub walk-append : {A : Type 0} (step : A → A → Type 0) (a b c : A) (xs ys : List A) → IsWalk step a xs b → IsWalk step b ys c → IsWalk step a (xs ++ ys) c
walk-append step a b c [] ys first second = rw first second
walk-append step a b c (x ∷ xs) ys first second = (first.0, walk-append step x b c xs ys first.1 second)

-- the last cell of a walk in a set is in the set
walk_end : (connectivity : Bool) (set : Place → Type 0) (a b : Place) (walk : List Place) → set a → IsWalk (StepsInto connectivity set) a walk b → set b
walk_end connectivity set a b [] start walked = rw (← walked) start
walk_end connectivity set a b (c ∷ cs) start walked = walk_end connectivity set c b cs walked.0.1 walked.1

pub joined_end : (connectivity : Bool) (set : Place → Type 0) (a b : Place) → IsJoined connectivity set a b → set b
joined_end connectivity set a b joined = walk_end connectivity set a b joined.1 joined.0 joined.2

pub joined_itself : (connectivity : Bool) (set : Place → Type 0) (a : Place) → set a → IsJoined connectivity set a a
joined_itself connectivity set a start = (start, [], refl)

pub joined_more : (connectivity : Bool) (set : Place → Type 0) (a b c : Place) → IsJoined connectivity set a b → IsStep connectivity b c → set c → IsJoined connectivity set a c
joined_more connectivity set a b c joined step end = (joined.0, joined.1 ++ c ∷ [], walk-append (StepsInto connectivity set) a b c joined.1 (c ∷ []) joined.2 ((step, end), refl))

pub joined_trans : (connectivity : Bool) (set : Place → Type 0) (a b c : Place) → IsJoined connectivity set a b → IsJoined connectivity set b c → IsJoined connectivity set a c
joined_trans connectivity set a b c first second = (first.0, first.1 ++ second.1, walk-append (StepsInto connectivity set) a b c first.1 second.1 first.2 second.2)

walk_back : (connectivity : Bool) (set : Place → Type 0) (a b : Place) (walk : List Place) → set a → IsWalk (StepsInto connectivity set) a walk b → IsJoined connectivity set b a
walk_back connectivity set a b [] start walked = (rw (← walked) start, [], sym walked)
walk_back connectivity set a b (c ∷ cs) start walked = joined_more connectivity set b c a (walk_back connectivity set c b cs walked.0.1 walked.1) (step_back connectivity a c walked.0.0) start

pub joined_sym : (connectivity : Bool) (set : Place → Type 0) (a b : Place) → IsJoined connectivity set a b → IsJoined connectivity set b a
joined_sym connectivity set a b joined = walk_back connectivity set a b joined.1 joined.0 joined.2
