-- For the code: what a walk along the links finds.
use Rattle.std.proofs.Common.{◌≡◌, ◌≢◌, ◌⊎◌, inl, inr, List, [], ◌∷◌, ◌++◌, refl, sym, ap, ◌∙◌, subst}
use Rattle.std.specs.Prelude.{Contains}
use Rattle.cell_base.proofs.ListDeciders.{contains_cases, contains_here, contains_there}
use Rattle.contour_chain.specs.Inner.Links.{IsLineOf}
use Rattle.contour_chain.specs.Lines.{IsClosed, LeadsOn, end_of}
use Rattle.contour_chain.proofs.LineLemmas.{ahead, closed_or_not, last_of}
use Rattle.contour_chain.proofs.JoinLemmas.{LineWith, line_with}
use Rattle.contour_chain.proofs.GatherLemmas.{AreOrdered}
use Rattle.std.proofs.lemmas.List.Elements.{Contains-append_right}

-- a link where no link ends is the first of an open line
pub open_first : {A P : Type 0} (ends : A → P × P) (before : A → A → Type 0) (links : List A) → AreOrdered ends before links → (s : A) → Contains links s → ((t : A) → Contains links t → (ends t).1 ≢ (ends s).0) → (ss : List A) × IsLineOf ends before links (s ∷ ss) × (¬ IsClosed ends (s ∷ ss))
open_first {A} ends before links is s member none =
    let at : LineWith ends before links s = line_with ends before is.asym links is.apart is.order s member in
    elim (ahead ends at.first at.others at.is.run s at.has) [
      | inr found ↦ absurd (none found.0 (at.is.within found.0 found.1) found.2)
      | inl first ↦
          let line : IsLineOf ends before links (s ∷ at.others) = subst (λ x. IsLineOf ends before links (x ∷ at.others)) first at.is in (
            at.others,
            line,
            λ closed.
                let last = last_of ends s at.others in
                none last.0 (line.within last.0 last.1) (last.2 ∙ closed),
          )
    ]

-- a link that is on no line that was found, where all open lines and all that start before it were, is the first of a closed line
pub closed_first : {A P : Type 0} (ends : A → P × P) (before : A → A → Type 0) (links : List A) → AreOrdered ends before links → (found : List A → Type 0) → (s : A) → Contains links s → ((g : List A) → found g → ¬ Contains g s) → ((g : List A) → IsLineOf ends before links g → ¬ IsClosed ends g → found g) → ((t : A) (ts : List A) → IsLineOf ends before links (t ∷ ts) → before t s → found (t ∷ ts)) → (ss : List A) × IsLineOf ends before links (s ∷ ss) × IsClosed ends (s ∷ ss)
closed_first {A} ends before links is found s member none all_free all_before =
    let at : LineWith ends before links s = line_with ends before is.asym links is.apart is.order s member in
    let line = at.first ∷ at.others in
    elim (closed_or_not ends is.apart.points line) [
      | inr free ↦ absurd (none line (all_free line at.is free) at.has)
      | inl closed ↦ elim (contains_cases at.first at.others s at.has) [
        | inr later ↦ absurd (none line (all_before at.first at.others at.is (at.is.least closed s later)) at.has)
        | inl here ↦ (at.others, subst (λ x. IsLineOf ends before links (x ∷ at.others)) here at.is, subst (λ x. IsClosed ends (x ∷ at.others)) here closed)
      ]
    ]

-- what comes next where a walk has come to a link of a line

leads_at : {A P : Type 0} (ends : A → P × P) (s : A) (ss done : List A) (u v : A) (rest : List A) → LeadsOn ends s ss → s ∷ ss ≡ done ++ u ∷ v ∷ rest → (ends v).0 ≡ (ends u).1
leads_at ends s [] [] u v rest leads is = absurd (let tails : [] ≡ v ∷ rest = cc in cc)
leads_at ends s (t ∷ ts) [] u v rest leads is =
    let one : s ≡ u = cc in
    let two : t ≡ v = cc in
    ap (λ x. (ends x).0) (sym two) ∙ leads.0 ∙ ap (λ x. (ends x).1) one
leads_at ends s [] (d ∷ []) u v rest leads is = absurd (let tails : [] ≡ u ∷ v ∷ rest = cc in cc)
leads_at ends s [] (d ∷ e ∷ done) u v rest leads is = absurd (let tails : [] ≡ e ∷ (done ++ u ∷ v ∷ rest) = cc in cc)
leads_at ends s (t ∷ ts) (d ∷ done) u v rest leads is =
    let tails : t ∷ ts ≡ done ++ u ∷ v ∷ rest = cc in
    leads_at ends t ts done u v rest leads.1 tails

ends_at : {A P : Type 0} (ends : A → P × P) (s : A) (ss done : List A) (u : A) → s ∷ ss ≡ done ++ u ∷ [] → end_of ends s ss ≡ (ends u).1
ends_at ends s [] [] u is =
    let one : s ≡ u = cc in
    ap (λ x. (ends x).1) one
ends_at ends s (t ∷ ts) [] u is = absurd (let tails : t ∷ ts ≡ [] = cc in cc)
ends_at ends s [] (d ∷ []) u is = absurd (let tails : [] ≡ u ∷ [] = cc in cc)
ends_at ends s [] (d ∷ e ∷ done) u is = absurd (let tails : [] ≡ e ∷ (done ++ u ∷ []) = cc in cc)
ends_at ends s (t ∷ ts) (d ∷ done) u is =
    let tails : t ∷ ts ≡ done ++ u ∷ [] = cc in
    ends_at ends t ts done u tails

-- the link that starts where the walk is comes next in the line, or is its first, and then the line is done and closed
pub goes_on : {A P : Type 0} (ends : A → P × P) (before : A → A → Type 0) (links : List A) → AreOrdered ends before links → (s : A) (ss : List A) → IsLineOf ends before links (s ∷ ss) → (done : List A) (u : A) (rest : List A) → s ∷ ss ≡ done ++ u ∷ rest → (v : A) → Contains links v → (ends v).0 ≡ (ends u).1 → ((more : List A) × (rest ≡ v ∷ more)) ⊎ ((rest ≡ []) × (v ≡ s) × IsClosed ends (s ∷ ss))
goes_on ends before links is s ss line done u [] at v member meets =
    let end = ends_at ends s ss done u at in
    elim (closed_or_not ends is.apart.points (s ∷ ss)) [
      | inr free ↦ absurd ((line.longest free v member).1 (meets ∙ sym end))
      | inl closed ↦ inr (refl, is.apart.starts v s member (line.within s (contains_here s ss)) (meets ∙ sym end ∙ closed), closed)
    ]
goes_on ends before links is s ss line done u (w ∷ more) at v member meets =
    let on_line : Contains (s ∷ ss) w = subst (λ xs. Contains xs w) (sym at) (Contains-append_right done (u ∷ w ∷ more) w (contains_there u (w ∷ more) w (contains_here w more))) in
    let same = is.apart.starts w v (line.within w on_line) member (leads_at ends s ss done u w more line.run at ∙ sym meets) in
    inl (more, ap (λ x. x ∷ more) same)

-- where none starts, the line is done, and open
pub comes_to_end : {A P : Type 0} (ends : A → P × P) (before : A → A → Type 0) (links : List A) → AreOrdered ends before links → (s : A) (ss : List A) → IsLineOf ends before links (s ∷ ss) → (done : List A) (u : A) (rest : List A) → s ∷ ss ≡ done ++ u ∷ rest → ((v : A) → Contains links v → (ends v).0 ≢ (ends u).1) → (rest ≡ []) × (¬ IsClosed ends (s ∷ ss))
comes_to_end ends before links is s ss line done u [] at none = (refl, λ closed. none s (line.within s (contains_here s ss)) (sym closed ∙ ends_at ends s ss done u at))
comes_to_end ends before links is s ss line done u (w ∷ more) at none =
    let on_line : Contains (s ∷ ss) w = subst (λ xs. Contains xs w) (sym at) (Contains-append_right done (u ∷ w ∷ more) w (contains_there u (w ∷ more) w (contains_here w more))) in
    absurd (none w (line.within w on_line) (leads_at ends s ss done u w more line.run at))
