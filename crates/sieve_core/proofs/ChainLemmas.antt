-- Chains that are followed.
use Rattle.std.proofs.Common.{◌≡◌, ◌≢◌, ℕ, zero, suc, ◌+◌, ◌<◌, ◌≤◌, ◌⊎◌, ◌↔◌, inl, inr, Bool, List, [], ◌∷◌, ◌++◌, Option, Some, None, length, length-append, length-set, replicate, set, take, get_or, refl, ap, sym, ◌∙◌, subst, arith}
use Rattle.std.specs.Prelude.{AllPairs, Contains, slice_get}
use Rattle.std.proofs.lemmas.Bool.{cases_eq}
use Rattle.std.proofs.lemmas.List.{get_or-replicate, length-replicate}
use Rattle.std.proofs.lemmas.List.Elements.{Contains-append_left, Contains-get_or, Contains-push, Contains-push_cases}
use Rattle.std.proofs.lemmas.List.Quantifiers.{all_pairs_push}
use Rattle.std.proofs.lemmas.Option.{get_or_from_slice_get, same_Some, slice_get-get_or, slice_get_within}
use Rattle.cell_base.specs.Walk.{IsWalk}
use Rattle.cell_base.proofs.WalkLemmas.{walk-append}
use Rattle.region_label.specs.Labelling.{RegionTable}
use Rattle.region_label.proofs.FillLemmas.{distinct_below}
use Rattle.region_label.proofs.ListLemmas.{slice_get-set_other, slice_get-set_same, take_push}
use Rattle.sieve_core.specs.Sieve.{IsChained, TakesFrom, size_of}
use Rattle.sieve_core.specs.Inner.Neighbours.{AreLargest}
use Rattle.sieve_core.specs.Inner.Targets.{AreKnown, AreKnownBelow, AreRight, AreTargets, IsEnd, IsFollowed, IsIdle, IsUnderWay, LeadsTo, Settles, target_at}
use Rattle.sieve_core.specs.declared.targets.Target.{Target}
use Rattle.sieve_core.specs.declared.targets.Target.TheVariants.{Unknown, UnderWay, Takes, Stays}
use Rattle.sieve_core.proofs.SieveLemmas.{one_largest, takes_from_none}

-- a chain to a component that is large enough has one length
one_length : (connectivity : Bool) (regions : RegionTable) (st k m n : ℕ) (xs ys : List ℕ) → IsWalk (IsChained connectivity regions st) k xs m → IsWalk (IsChained connectivity regions st) k ys n → st ≤ size_of regions m → st ≤ size_of regions n → length xs ≡ length ys
one_length connectivity regions st k m n [] [] first second big_m big_n = refl
one_length connectivity regions st k m n [] (y ∷ ys) first second big_m big_n =
    let big : st ≤ size_of regions k = subst (λ (j : ℕ). st ≤ size_of regions j) (sym first) big_m in
    absurd (omega (arith, big, second.0.0))
one_length connectivity regions st k m n (x ∷ xs) [] first second big_m big_n =
    let big : st ≤ size_of regions k = subst (λ (j : ℕ). st ≤ size_of regions j) (sym second) big_n in
    absurd (omega (arith, big, first.0.0))
one_length connectivity regions st k m n (x ∷ xs) (y ∷ ys) first second big_m big_n =
    let same : y ≡ x = one_largest connectivity regions k y x second.0.1 first.0.1 in
    ap suc (one_length connectivity regions st x m n xs ys first.1 (subst (λ (j : ℕ). IsWalk (IsChained connectivity regions st) j ys n) same second.1) big_m big_n)

-- from each member of a chain the rest leads on
suffix_at : (step : ℕ → ℕ → Type 0) (k m i d : ℕ) (chain : List ℕ) → IsWalk step k chain m → i < length (k ∷ chain) → (rest : List ℕ) × IsWalk step (get_or (k ∷ chain) i d) rest m × (length rest + i ≡ length chain)
suffix_at step k m zero d chain walked within = (chain, walked, omega arith)
suffix_at step k m (suc i) d [] walked within = absurd (omega (arith, within))
suffix_at step k m (suc i) d (c ∷ cs) walked within =
    let found = suffix_at step c m i d cs walked.1 (omega (arith, within)) in
    (found.0, found.1, omega (arith, found.2))

chained_below : (connectivity : Bool) (regions : RegionTable) (st k m : ℕ) → AreKnown regions → IsChained connectivity regions st k m → (k < length regions.firsts) × (m < length regions.firsts)
chained_below connectivity regions st k m known chained =
    let next = chained.1.next_to in
    (known k next.1 next.3, known m next.2 next.4)

members_below : (connectivity : Bool) (regions : RegionTable) (st k m i : ℕ) (chain : List ℕ) → AreKnown regions → k < length regions.firsts → IsWalk (IsChained connectivity regions st) k chain m → Contains (k ∷ chain) i → i < length regions.firsts
members_below connectivity regions st k m i chain known within walked (zero, in_list, is) = omega (arith, within, is)
members_below connectivity regions st k m i [] known within walked (suc j, in_list, is) = absurd (omega (arith, in_list))
members_below connectivity regions st k m i (c ∷ cs) known within walked (suc j, in_list, is) =
    members_below connectivity regions st c m i cs known (chained_below connectivity regions st k c known walked.0).1 walked.1 (j, omega (arith, in_list), is)

-- a chain that leads to a component that is large enough is shorter than there are components
pub takes_of : (connectivity : Bool) (regions : RegionTable) (st k m : ℕ) → AreKnown regions → k < length regions.firsts → LeadsTo connectivity regions st k m → TakesFrom connectivity regions st k m
takes_of connectivity regions st k m known within leads =
    let once : AllPairs (λ i j. i ≢ j) (k ∷ leads.0) = λ i j d less in_list same.
    let first = suffix_at (IsChained connectivity regions st) k m i d leads.0 leads.1 (omega arith) in
    let second = suffix_at (IsChained connectivity regions st) k m j d leads.0 leads.1 in_list in
    let turned : IsWalk (IsChained connectivity regions st) (get_or (k ∷ leads.0) j d) first.0 m = subst (λ (n : ℕ). IsWalk (IsChained connectivity regions st) n first.0 m) same first.1 in
    omega (arith, one_length connectivity regions st (get_or (k ∷ leads.0) j d) m m first.0 second.0 turned second.1 leads.2 leads.2, first.2, second.2, less) in
    let short = distinct_below (k ∷ leads.0) (length regions.firsts) once (λ i member. members_below connectivity regions st k m i leads.0 known within leads.1 member) in
    (leads.0, leads.1, omega (arith, short), leads.2)

end_below : (connectivity : Bool) (regions : RegionTable) (st k m : ℕ) (chain : List ℕ) → AreKnown regions → k < length regions.firsts → IsWalk (IsChained connectivity regions st) k chain m → m < length regions.firsts
end_below connectivity regions st k m [] known within walked = omega (arith, within, walked)
end_below connectivity regions st k m (c ∷ cs) known within walked = end_below connectivity regions st c m cs known (chained_below connectivity regions st k c known walked.0).1 walked.1

leads_on : (connectivity : Bool) (regions : RegionTable) (st k at m : ℕ) (chain : List ℕ) → IsWalk (IsChained connectivity regions st) k chain at → LeadsTo connectivity regions st at m → LeadsTo connectivity regions st k m
leads_on connectivity regions st k at m chain walked leads =
    (chain ++ leads.0, walk-append (IsChained connectivity regions st) k at m chain leads.0 walked leads.1, leads.2)

not_in_none : (k : ℕ) → Contains [] k → ⊥
not_in_none k member = omega (arith, member.1)

-- nothing is under way
pub under_way_first : (connectivity : Bool) (regions : RegionTable) (st : ℕ) (old : List Target) (path : List ℕ) (start : ℕ) → AreRight connectivity regions st old → IsIdle old → path ≡ [] → start < length regions.firsts → IsUnderWay connectivity regions st old old path start start
under_way_first connectivity regions st old path start right idle empty below =
    let none : (k : ℕ) → Contains path k → ⊥ = λ k member. not_in_none k (subst (λ (p : List ℕ). Contains p k) empty member) in
    record {
      right = right;
      on = λ k. (λ is. absurd (idle k is), λ member. absurd (none k member));
      off = λ k. inr refl;
      once = λ i j d less within. absurd (omega (arith, within, ap length empty));
      small = λ k member. absurd (none k member);
      reach = λ k member. absurd (none k member);
      next = λ k m member. absurd (none k member);
      started = inl refl;
      below = below;
    }

-- the targets with one more under way
record IsMarked (old new : List Target) (at : ℕ) : Type 0 where
  here : slice_get new at ≡ Some UnderWay
  others : (k : ℕ) → k ≢ at → slice_get new k ≡ slice_get old k

is_marked : (old : List Target) (at : ℕ) → slice_get old at ≡ Some Unknown → IsMarked old (set old at UnderWay) at
is_marked old at unknown = record {
  here = slice_get-set_same old at UnderWay (slice_get_within old at Unknown unknown);
  others = λ k other. slice_get-set_other old at k UnderWay other;
}

not_at : (targets : List Target) (k at : ℕ) (t u : Target) → slice_get targets k ≡ Some t → slice_get targets at ≡ Some u → (t ≡ u → ⊥) → k ≢ at
not_at targets k at t u is_k is_at differ same = differ (same_Some t u (sym is_k ∙ ap (slice_get targets) same ∙ is_at))

takes_not : (m : ℕ) (u : Target) → u ≡ UnderWay → Takes m ≡ u → ⊥
takes_not m u is same = absurd (let both : Takes m ≡ UnderWay = same ∙ is in cc)

right_marked : (connectivity : Bool) (regions : RegionTable) (st : ℕ) (now new : List Target) (at : ℕ) → AreRight connectivity regions st now → slice_get now at ≡ Some Unknown → length new ≡ length now → IsMarked now new at → AreRight connectivity regions st new
right_marked connectivity regions st now new at right unknown long marked =
    let apart : (k : ℕ) (t : Target) → (t ≡ UnderWay → ⊥) → slice_get new k ≡ Some t → slice_get now k ≡ Some t = λ k t differ is.
    let other : k ≢ at = not_at new k at t UnderWay is marked.here differ in
    sym (marked.others k other) ∙ is in
    record {
      long = long ∙ right.long;
      takes = λ k m is. right.takes k m (apart k (Takes m) (λ same. absurd (let both : Takes m ≡ UnderWay = same in cc)) is);
      small = λ k is. right.small k (apart k Stays (λ same. absurd (let both : Stays ≡ UnderWay = same in cc)) is);
      stays = λ k m is chained.
          let was = right.stays k m (apart k Stays (λ same. absurd (let both : Stays ≡ UnderWay = same in cc)) is) chained in
          let other : m ≢ at = not_at now m at Stays Unknown was unknown (λ same. absurd (let both : Stays ≡ Unknown = same in cc)) in
          marked.others m other ∙ was;
    }

-- a path with one more member
on_push : (now new : List Target) (path : List ℕ) (at : ℕ) → ((k : ℕ) → (slice_get now k ≡ Some UnderWay) ↔ Contains path k) → IsMarked now new at → (k : ℕ) → (slice_get new k ≡ Some UnderWay) ↔ Contains (path ++ at ∷ []) k
on_push now new path at on marked k = (
  λ is. elim (cases_eq k at) [
    | inl same ↦ subst (λ (n : ℕ). Contains (path ++ at ∷ []) n) (sym same) (Contains-push path at)
    | inr other ↦ Contains-append_left path (at ∷ []) k ((on k).0 (sym (marked.others k other) ∙ is))
  ],
  λ member. elim (cases_eq k at) [
    | inl same ↦ ap (slice_get new) same ∙ marked.here
    | inr other ↦ elim (Contains-push_cases path at k member) [
      | inl before ↦ marked.others k other ∙ (on k).1 before
      | inr same ↦ absurd (other (sym same))
    ]
  ],
)

off_push : (old now new : List Target) (path : List ℕ) (at : ℕ) → ((k : ℕ) → Contains path k ⊎ (slice_get now k ≡ slice_get old k)) → IsMarked now new at → (k : ℕ) → Contains (path ++ at ∷ []) k ⊎ (slice_get new k ≡ slice_get old k)
off_push old now new path at off marked k = elim (off k) [
  | inl member ↦ inl (Contains-append_left path (at ∷ []) k member)
  | inr same ↦ elim (cases_eq k at) [
    | inl is ↦ inl (subst (λ (n : ℕ). Contains (path ++ at ∷ []) n) (sym is) (Contains-push path at))
    | inr other ↦ inr (marked.others k other ∙ same)
  ]
]

new_member : (now : List Target) (path : List ℕ) (at k : ℕ) → ((j : ℕ) → (slice_get now j ≡ Some UnderWay) ↔ Contains path j) → slice_get now at ≡ Some Unknown → Contains path k → k ≢ at
new_member now path at k on unknown member = not_at now k at UnderWay Unknown ((on k).1 member) unknown (λ same. absurd (let both : UnderWay ≡ Unknown = same in cc))

once_push : (now : List Target) (path : List ℕ) (at : ℕ) → ((j : ℕ) → (slice_get now j ≡ Some UnderWay) ↔ Contains path j) → slice_get now at ≡ Some Unknown → AllPairs (λ i j. i ≢ j) path → AllPairs (λ i j. i ≢ j) (path ++ at ∷ [])
once_push now path at on unknown once = all_pairs_push (λ i j. i ≢ j) path at once (λ k d within same. new_member now path at (get_or path k d) on unknown (Contains-get_or path k d within) same)

-- one step along the chain
pub under_way_on : (connectivity : Bool) (regions : RegionTable) (st : ℕ) (old now new : List Target) (path : List ℕ) (start at next : ℕ) → AreKnown regions → IsUnderWay connectivity regions st old now path start at → slice_get now at ≡ Some Unknown → new ≡ set now at UnderWay → IsChained connectivity regions st at next → IsUnderWay connectivity regions st old new (path ++ at ∷ []) start next
under_way_on connectivity regions st old now new path start at next known way unknown is chained =
    let marked : IsMarked now new at = subst (λ (ts : List Target). IsMarked now ts at) (sym is) (is_marked now at unknown) in
    record {
      right = right_marked connectivity regions st now new at way.right unknown (ap length is ∙ length-set now at UnderWay) marked;
      on = on_push now new path at way.on marked;
      off = off_push old now new path at way.off marked;
      once = once_push now path at way.on unknown way.once;
      small = λ k member. elim (Contains-push_cases path at k member) [
        | inl before ↦ way.small k before
        | inr same ↦ subst (λ (n : ℕ). size_of regions n < st) same chained.0
      ];
      reach = λ k member. elim (Contains-push_cases path at k member) [
        | inl before ↦
            let walk = way.reach k before in
            (walk.0 ++ next ∷ [], walk-append (IsChained connectivity regions st) k at next walk.0 (next ∷ []) walk.1 (chained, refl))
        | inr same ↦ (next ∷ [], (subst (λ (n : ℕ). IsChained connectivity regions st n next) same chained, refl))
      ];
      next = λ k m member to. elim (Contains-push_cases path at k member) [
        | inl before ↦ elim (way.next k m before to) [
          | inl in_path ↦ inl (Contains-append_left path (at ∷ []) m in_path)
          | inr is_at ↦ inl (subst (λ (n : ℕ). Contains (path ++ at ∷ []) n) (sym is_at) (Contains-push path at))
        ]
        | inr same ↦ inr (one_largest connectivity regions at m next (subst (λ (n : ℕ). IsChained connectivity regions st n m) (sym same) to).1 chained.1)
      ];
      started = elim way.started [
        | inl first ↦ inr (subst (λ (n : ℕ). Contains (path ++ at ∷ []) n) (sym first) (Contains-push path at))
        | inr member ↦ inr (Contains-append_left path (at ∷ []) start member)
      ];
      below = (chained_below connectivity regions st at next known chained).1;
    }

path_below : (connectivity : Bool) (regions : RegionTable) (st : ℕ) (now : List Target) (path : List ℕ) → AreRight connectivity regions st now → ((k : ℕ) → (slice_get now k ≡ Some UnderWay) ↔ Contains path k) → (k : ℕ) → Contains path k → k < length regions.firsts
path_below connectivity regions st now path right on k member = omega (arith, slice_get_within now k UnderWay ((on k).1 member), right.long)

-- the chain comes to a component whose end is known, or that is large enough
pub followed_to : (connectivity : Bool) (regions : RegionTable) (st : ℕ) (old now : List Target) (path : List ℕ) (start at m : ℕ) → IsUnderWay connectivity regions st old now path start at → LeadsTo connectivity regions st at m → IsFollowed connectivity regions st old now path start (Some m)
followed_to connectivity regions st old now path start at m way leads = record {
  right = way.right;
  on = way.on;
  off = way.off;
  below = path_below connectivity regions st now path way.right way.on;
  ends = λ k in_chain.
      let from_path : (n : ℕ) → Contains path n → LeadsTo connectivity regions st n m = λ n member.
      let walk = way.reach n member in
      leads_on connectivity regions st n at m walk.0 walk.1 leads in
      elim in_chain [
        | inl member ↦ from_path k member
        | inr is_start ↦ elim way.started [
          | inl first ↦ subst (λ (n : ℕ). LeadsTo connectivity regions st n m) (sym (is_start ∙ first)) leads
          | inr member ↦ subst (λ (n : ℕ). LeadsTo connectivity regions st n m) (sym is_start) (from_path start member)
        ]
      ];
}

-- the chain comes to a component that stays
pub followed_stays : (connectivity : Bool) (regions : RegionTable) (st : ℕ) (old now : List Target) (path : List ℕ) (start at : ℕ) → IsUnderWay connectivity regions st old now path start at → slice_get old start ≡ Some Unknown → slice_get now at ≡ Some Stays → IsFollowed connectivity regions st old now path start None
followed_stays connectivity regions st old now path start at way unknown stays = record {
  right = way.right;
  on = way.on;
  off = way.off;
  below = path_below connectivity regions st now path way.right way.on;
  ends = (
    elim way.started [
      | inr member ↦ member
      | inl first ↦ elim (way.off start) [
        | inl member ↦ member
        | inr same ↦
            let both : Stays ≡ Unknown = same_Some Stays Unknown (sym stays ∙ ap (slice_get now) (sym first) ∙ same ∙ unknown) in
            absurd (cc)
      ]
    ],
    λ k member. (
      way.small k member,
      λ m chained. elim (way.next k m member chained) [
        | inl in_path ↦ inl in_path
        | inr is_at ↦ inr (ap (slice_get now) is_at ∙ stays)
      ],
    ),
  );
}

-- the chain comes back to one of its members
pub followed_round : (connectivity : Bool) (regions : RegionTable) (st : ℕ) (old now : List Target) (path : List ℕ) (start at : ℕ) → IsUnderWay connectivity regions st old now path start at → slice_get now at ≡ Some UnderWay → IsFollowed connectivity regions st old now path start None
followed_round connectivity regions st old now path start at way under =
    let at_in = (way.on at).0 under in
    record {
      right = way.right;
      on = way.on;
      off = way.off;
      below = path_below connectivity regions st now path way.right way.on;
      ends = (
        elim way.started [ inr member ↦ member | inl first ↦ subst (λ (n : ℕ). Contains path n) (sym first) at_in ],
        λ k member. (
          way.small k member,
          λ m chained. elim (way.next k m member chained) [
            | inl in_path ↦ inl in_path
            | inr is_at ↦ inl (subst (λ (n : ℕ). Contains path n) (sym is_at) at_in)
          ],
        ),
      );
    }

-- the chain ends, since the last has no neighbour
pub followed_out : (connectivity : Bool) (regions : RegionTable) (st : ℕ) (old now new : List Target) (path : List ℕ) (start at : ℕ) → IsUnderWay connectivity regions st old now path start at → slice_get now at ≡ Some Unknown → new ≡ set now at UnderWay → size_of regions at < st → ((m : ℕ) → ¬ IsChained connectivity regions st at m) → IsFollowed connectivity regions st old new (path ++ at ∷ []) start None
followed_out connectivity regions st old now new path start at way unknown is small none =
    let marked : IsMarked now new at = subst (λ (ts : List Target). IsMarked now ts at) (sym is) (is_marked now at unknown) in
    let right = right_marked connectivity regions st now new at way.right unknown (ap length is ∙ length-set now at UnderWay) marked in
    let on = on_push now new path at way.on marked in
    record {
      right = right;
      on = on;
      off = off_push old now new path at way.off marked;
      below = path_below connectivity regions st new (path ++ at ∷ []) right on;
      ends = (
        elim way.started [
          | inr member ↦ Contains-append_left path (at ∷ []) start member
          | inl first ↦ subst (λ (n : ℕ). Contains (path ++ at ∷ []) n) (sym first) (Contains-push path at)
        ],
        λ k member. elim (Contains-push_cases path at k member) [
          | inl before ↦ (
            way.small k before,
            λ m chained. elim (way.next k m before chained) [
              | inl in_path ↦ inl (Contains-append_left path (at ∷ []) m in_path)
              | inr is_at ↦ inl (subst (λ (n : ℕ). Contains (path ++ at ∷ []) n) (sym is_at) (Contains-push path at))
            ],
          )
          | inr same ↦ (subst (λ (n : ℕ). size_of regions n < st) same small, λ m chained. absurd (none m (subst (λ (n : ℕ). IsChained connectivity regions st n m) (sym same) chained)))
        ],
      );
    }

-- a chain is no longer than there are components
pub path_short : (connectivity : Bool) (regions : RegionTable) (st : ℕ) (old now : List Target) (path : List ℕ) (start at : ℕ) → IsUnderWay connectivity regions st old now path start at → slice_get now at ≡ Some Unknown → length path < length regions.firsts
path_short connectivity regions st old now path start at way unknown =
    let all = distinct_below (path ++ at ∷ []) (length regions.firsts) (once_push now path at way.on unknown way.once) (λ i member. elim (Contains-push_cases path at i member) [
      | inl before ↦ path_below connectivity regions st now path way.right way.on i before
      | inr same ↦ omega (arith, same, way.below)
    ]) in
    omega (arith, all, length-append path (at ∷ []))

pub read_at : {A : Type 0} (xs : List A) (k : ℕ) (d x : A) → k < length xs → get_or xs k d ≡ x → slice_get xs k ≡ Some x
read_at xs k d x within is = slice_get-get_or xs k d within ∙ ap (λ y. Some y) is

pub size_read : (regions : RegionTable) (k n : ℕ) → slice_get regions.sizes k ≡ Some n → size_of regions k ≡ n
size_read regions k n at = get_or_from_slice_get regions.sizes k n 0 at

pub chained_to : (connectivity : Bool) (regions : RegionTable) (st : ℕ) (largest : List (Option ℕ)) (k m : ℕ) → AreLargest connectivity regions st largest → slice_get largest k ≡ Some (Some m) → size_of regions k < st → IsChained connectivity regions st k m
chained_to connectivity regions st largest k m are at small = (small, are.is k m at small)

pub chained_nowhere : (connectivity : Bool) (regions : RegionTable) (st : ℕ) (largest : List (Option ℕ)) (k m : ℕ) → AreLargest connectivity regions st largest → slice_get largest k ≡ Some None → size_of regions k < st → ¬ IsChained connectivity regions st k m
chained_nowhere connectivity regions st largest k m are at small chained = are.none k at small m chained.1.next_to

pub leads_itself : (connectivity : Bool) (regions : RegionTable) (st k : ℕ) → st ≤ size_of regions k → LeadsTo connectivity regions st k k
leads_itself connectivity regions st k big = ([], refl, big)

-- the front of a path, one longer
front_more : (path : List ℕ) (n k d : ℕ) → n < length path → Contains (take (n + 1) path) k → Contains (take n path) k ⊎ (k ≡ get_or path n d)
front_more path n k d within member =
    let longer : take (n + 1) path ≡ take n path ++ get_or path n d ∷ [] = take_push path n (get_or path n d) (slice_get-get_or path n d within) in
    elim (Contains-push_cases (take n path) (get_or path n d) k (subst (λ (xs : List ℕ). Contains xs k) longer member)) [
      | inl before ↦ inl before
      | inr same ↦ inr (sym same)
    ]

-- one member more has the target
pub settle_on : (path : List ℕ) (old now : List Target) (n d : ℕ) (target : Target) → n < length path → get_or path n d < length now → ((k : ℕ) → Contains (take n path) k → slice_get now k ≡ Some target) → ((k : ℕ) → Contains path k ⊎ (slice_get now k ≡ slice_get old k)) → ((k : ℕ) → Contains (take (n + 1) path) k → slice_get (set now (get_or path n d) target) k ≡ Some target) × ((k : ℕ) → Contains path k ⊎ (slice_get (set now (get_or path n d) target) k ≡ slice_get old k))
settle_on path old now n d target in_path within done others = (
  λ k member. elim (cases_eq k (get_or path n d)) [
    | inl same ↦ ap (slice_get (set now (get_or path n d) target)) same ∙ slice_get-set_same now (get_or path n d) target within
    | inr other ↦ elim (front_more path n k d in_path member) [
      | inl before ↦ slice_get-set_other now (get_or path n d) k target other ∙ done k before
      | inr same ↦ absurd (other same)
    ]
  ],
  λ k. elim (others k) [
    | inl member ↦ inl member
    | inr same ↦ elim (cases_eq k (get_or path n d)) [
      | inl is ↦ inl (subst (λ (m : ℕ). Contains path m) (sym is) (Contains-get_or path n d in_path))
      | inr other ↦ inr (slice_get-set_other now (get_or path n d) k target other ∙ same)
    ]
  ],
)

-- and the first
pub settles : (path : List ℕ) (old now : List Target) (start : ℕ) (target : Target) → start < length now → length now ≡ length old → ((k : ℕ) → Contains path k → slice_get now k ≡ Some target) → ((k : ℕ) → Contains path k ⊎ (slice_get now k ≡ slice_get old k)) → Settles old (set now start target) path start target
settles path old now start target within long done others = record {
  long = length-set now start target ∙ long;
  set = λ k in_chain. elim (cases_eq k start) [
    | inl same ↦ ap (slice_get (set now start target)) same ∙ slice_get-set_same now start target within
    | inr other ↦ elim in_chain [
      | inl member ↦ slice_get-set_other now start k target other ∙ done k member
      | inr same ↦ absurd (other same)
    ]
  ];
  others = λ k. elim (cases_eq k start) [
    | inl same ↦ inl (inr same)
    | inr other ↦ elim (others k) [
      | inl member ↦ inl (inl member)
      | inr same ↦ inr (slice_get-set_other now start k target other ∙ same)
    ]
  ];
}

-- after a chain was settled

settled_takes : (connectivity : Bool) (regions : RegionTable) (st : ℕ) (now : List Target) (path : List ℕ) (start k m : ℕ) (end : Option ℕ) → IsEnd connectivity regions st now path start end → Contains path k ⊎ (k ≡ start) → target_at end ≡ Takes m → LeadsTo connectivity regions st k m
settled_takes connectivity regions st now path start k m (Some n) ends in_chain is =
    let same : n ≡ m = cc in
    subst (λ (j : ℕ). LeadsTo connectivity regions st k j) same (ends k in_chain)
settled_takes connectivity regions st now path start k m None ends in_chain is = absurd (let both : Stays ≡ Takes m = is in cc)

in_path : (connectivity : Bool) (regions : RegionTable) (st : ℕ) (now : List Target) (path : List ℕ) (start k : ℕ) → IsEnd connectivity regions st now path start None → Contains path k ⊎ (k ≡ start) → Contains path k
in_path connectivity regions st now path start k ends (inl member) = member
in_path connectivity regions st now path start k ends (inr same) = subst (λ (n : ℕ). Contains path n) (sym same) ends.0

settled_small : (connectivity : Bool) (regions : RegionTable) (st : ℕ) (now : List Target) (path : List ℕ) (start k : ℕ) (end : Option ℕ) → IsEnd connectivity regions st now path start end → Contains path k ⊎ (k ≡ start) → target_at end ≡ Stays → size_of regions k < st
settled_small connectivity regions st now path start k (Some n) ends in_chain is = absurd (let both : Takes n ≡ Stays = is in cc)
settled_small connectivity regions st now path start k None ends in_chain is = (ends.1 k (in_path connectivity regions st now path start k ends in_chain)).0

settled_stays : (connectivity : Bool) (regions : RegionTable) (st : ℕ) (now : List Target) (path : List ℕ) (start k m : ℕ) (end : Option ℕ) → IsEnd connectivity regions st now path start end → Contains path k ⊎ (k ≡ start) → target_at end ≡ Stays → IsChained connectivity regions st k m → Contains path m ⊎ (slice_get now m ≡ Some Stays)
settled_stays connectivity regions st now path start k m (Some n) ends in_chain is chained = absurd (let both : Takes n ≡ Stays = is in cc)
settled_stays connectivity regions st now path start k m None ends in_chain is chained = (ends.1 k (in_path connectivity regions st now path start k ends in_chain)).1 m chained

no_end_under_way : (end : Option ℕ) → target_at end ≡ UnderWay → ⊥
no_end_under_way (Some n) is = absurd (let both : Takes n ≡ UnderWay = is in cc)
no_end_under_way None is = absurd (let both : Stays ≡ UnderWay = is in cc)

no_end_unknown : (end : Option ℕ) → target_at end ≡ Unknown → ⊥
no_end_unknown (Some n) is = absurd (let both : Takes n ≡ Unknown = is in cc)
no_end_unknown None is = absurd (let both : Stays ≡ Unknown = is in cc)

set_is : (new : List Target) (k : ℕ) (t u : Target) → slice_get new k ≡ Some t → slice_get new k ≡ Some u → t ≡ u
set_is new k t u is_t is_u = same_Some t u (sym is_t ∙ is_u)

-- a target that stays is neither on the path nor the start of it, so it still stays
still_stays : (old now new : List Target) (path : List ℕ) (start m : ℕ) (target : Target) → ((k : ℕ) → (slice_get now k ≡ Some UnderWay) ↔ Contains path k) → ((k : ℕ) → Contains path k ⊎ (slice_get now k ≡ slice_get old k)) → slice_get old start ≡ Some Unknown → Settles now new path start target → slice_get now m ≡ Some Stays → slice_get new m ≡ Some Stays
still_stays old now new path start m target on off unknown settled stays =
    let not_on : Contains path m → ⊥ = λ member. absurd (let both : Stays ≡ UnderWay = set_is now m Stays UnderWay stays ((on m).1 member) in cc) in
    elim (settled.others m) [
      | inr same ↦ same ∙ stays
      | inl in_chain ↦ elim in_chain [
        | inl member ↦ absurd (not_on member)
        | inr is_start ↦ elim (off m) [
          | inl member ↦ absurd (not_on member)
          | inr same ↦ absurd (let both : Stays ≡ Unknown = set_is now m Stays Unknown stays (same ∙ ap (slice_get old) is_start ∙ unknown) in cc)
        ]
      ]
    ]

pub settled_right : (connectivity : Bool) (regions : RegionTable) (st : ℕ) (old now new : List Target) (path : List ℕ) (start : ℕ) (end : Option ℕ) → slice_get old start ≡ Some Unknown → IsFollowed connectivity regions st old now path start end → Settles now new path start (target_at end) → AreRight connectivity regions st new
settled_right connectivity regions st old now new path start end unknown followed settled = record {
  long = settled.long ∙ followed.right.long;
  takes = λ k m is. elim (settled.others k) [
    | inl in_chain ↦ settled_takes connectivity regions st now path start k m end followed.ends in_chain (set_is new k (target_at end) (Takes m) (settled.set k in_chain) is)
    | inr same ↦ followed.right.takes k m (sym same ∙ is)
  ];
  small = λ k is. elim (settled.others k) [
    | inl in_chain ↦ settled_small connectivity regions st now path start k end followed.ends in_chain (set_is new k (target_at end) Stays (settled.set k in_chain) is)
    | inr same ↦ followed.right.small k (sym same ∙ is)
  ];
  stays = λ k m is chained. elim (settled.others k) [
    | inl in_chain ↦
        let target : target_at end ≡ Stays = set_is new k (target_at end) Stays (settled.set k in_chain) is in
        elim (settled_stays connectivity regions st now path start k m end followed.ends in_chain target chained) [
          | inl member ↦ settled.set m (inl member) ∙ ap (λ (t : Target). Some t) target
          | inr stays ↦ still_stays old now new path start m (target_at end) followed.on followed.off unknown settled stays
        ]
    | inr same ↦ still_stays old now new path start m (target_at end) followed.on followed.off unknown settled (followed.right.stays k m (sym same ∙ is) chained)
  ];
}

pub settled_idle : (connectivity : Bool) (regions : RegionTable) (st : ℕ) (old now new : List Target) (path : List ℕ) (start : ℕ) (end : Option ℕ) → IsFollowed connectivity regions st old now path start end → Settles now new path start (target_at end) → IsIdle new
settled_idle connectivity regions st old now new path start end followed settled k is =
    let not_in : Contains path k ⊎ (k ≡ start) → ⊥ = λ in_chain. no_end_under_way end (set_is new k (target_at end) UnderWay (settled.set k in_chain) is) in
    elim (settled.others k) [
      | inl in_chain ↦ not_in in_chain
      | inr same ↦ not_in (inl ((followed.on k).0 (sym same ∙ is)))
    ]

pub settled_known : (connectivity : Bool) (regions : RegionTable) (st : ℕ) (old now new : List Target) (path : List ℕ) (start : ℕ) (end : Option ℕ) → IsFollowed connectivity regions st old now path start end → Settles now new path start (target_at end) → AreKnownBelow old start → AreKnownBelow new (start + 1)
settled_known connectivity regions st old now new path start end followed settled known k less is =
    let not_in : Contains path k ⊎ (k ≡ start) → ⊥ = λ in_chain. no_end_unknown end (set_is new k (target_at end) Unknown (settled.set k in_chain) is) in
    elim (cases_eq k start) [
      | inl same ↦ not_in (inr same)
      | inr other ↦ elim (settled.others k) [
        | inl in_chain ↦ not_in in_chain
        | inr same ↦ elim (followed.off k) [
          | inl member ↦ not_in (inl member)
          | inr was ↦ known k (omega arith) (sym was ∙ sym same ∙ is)
        ]
      ]
    ]

-- a component that is known already
pub known_more : (targets : List Target) (k : ℕ) → slice_get targets k ≢ Some Unknown → AreKnownBelow targets k → AreKnownBelow targets (k + 1)
known_more targets k is below j less unknown = elim (cases_eq j k) [
  | inl same ↦ is (ap (slice_get targets) (sym same) ∙ unknown)
  | inr other ↦ below j (omega arith) unknown
]

-- nothing is known at the start
unknown_at : (n k : ℕ) (t : Target) → slice_get (replicate n Unknown) k ≡ Some t → t ≡ Unknown
unknown_at n k t at =
    let within : k < n = omega (arith, slice_get_within (replicate n Unknown) k t at, length-replicate {A = Target} n Unknown) in
    sym (get_or_from_slice_get (replicate n Unknown) k t Unknown at) ∙ get_or-replicate n k Unknown Unknown within

pub right_first : (connectivity : Bool) (regions : RegionTable) (st n : ℕ) → n ≡ length regions.firsts → AreRight connectivity regions st (replicate n Unknown)
right_first connectivity regions st n long = record {
  long = length-replicate n Unknown ∙ long;
  takes = λ k m is. absurd (let none : Takes m ≡ Unknown = unknown_at n k (Takes m) is in cc);
  small = λ k is. absurd (let none : Stays ≡ Unknown = unknown_at n k Stays is in cc);
  stays = λ k m is. absurd (let none : Stays ≡ Unknown = unknown_at n k Stays is in cc);
}

pub idle_first : (n : ℕ) → IsIdle (replicate n Unknown)
idle_first n k is = absurd (let none : UnderWay ≡ Unknown = unknown_at n k UnderWay is in cc)

-- at the end
pub targets_found : (connectivity : Bool) (regions : RegionTable) (st n : ℕ) (targets : List Target) → AreKnown regions → AreRight connectivity regions st targets → IsIdle targets → AreKnownBelow targets n → length regions.firsts ≤ n → AreTargets connectivity regions st targets
targets_found connectivity regions st n targets known right idle below all = record {
  long = right.long;
  taken = λ k m is. takes_of connectivity regions st k m known (omega (arith, slice_get_within targets k (Takes m) is, right.long)) (right.takes k m is);
  below = λ k m is.
      let leads = right.takes k m is in
      end_below connectivity regions st k m leads.0 known (omega (arith, slice_get_within targets k (Takes m) is, right.long)) leads.1;
  none = λ k m is. takes_from_none connectivity regions st (λ j. slice_get targets j ≡ Some Stays) (λ j i stays chained. right.stays j i stays chained) (λ j stays. right.small j stays) k is m;
  idle = idle;
  known = λ k is. below k (omega (arith, slice_get_within targets k Unknown is, right.long, all)) is;
}

pub none_of : (o : Option ℕ) → ((k : ℕ) → o ≡ Some k → ⊥) → o ≡ None
none_of None none = refl
none_of (Some k) none = absurd (none k refl)
