-- The text of gdal_contour is one.
use Rattle.std.proofs.Common.{◌≡◌, ◌∙◌, ◌<◌, ◌≤◌, ◌≤ℤ◌, ℕ, ℤ, Bool, List, Option, Some, None, Result, Ok, Err, length, refl, sym, ap, subst, arith}
use Rattle.std.specs.List.{flat_map}
use Rattle.std.proofs.lemmas.Int.{ints}
use Rattle.cell_base.specs.Raster.{Raster}
use Rattle.asc_grid.specs.declared.grid.Asc.{Asc}
use Rattle.contour_segments.specs.Levels.{AreLevels, most_levels}
use Rattle.contour_segments.specs.Segments.{segments_of}
use Rattle.contour_segments.specs.declared.segment.Segment.{Segment}
use Rattle.contour_segments.proofs.LevelLemmas.{one_list_of_levels}
use Rattle.contour_chain.specs.Contours.{AreContours}
use Rattle.contour_chain.proofs.ChainLemmas.{one_list_of_contours}
use Rattle.tool_words.specs.declared.job.ContourJob.{ContourJob}
use Rattle.tool_outcome.specs.Contour.{AnswersContour, AreLevelsOf, HasOneContourText, HasTooMany, IsContourText, IsRangeOf, drawn_of, layer_text, spec_of}
use Rattle.tool_outcome.specs.Answer.{Answer}
use Rattle.tool_outcome.specs.declared.fault.Fault.{Fault}
use Rattle.tool_outcome.specs.declared.fault.Fault.TheVariants.{TooManyLevels}
use Rattle.tool_outcome.proofs.MaskLemmas.{one_mask}

-- numbers of a kind have one range

same_number : (a b : ℤ) → a ≤ℤ b → b ≤ℤ a → a ≡ b
same_number a b up down = grind (arith, ints, up, down)

pub one_range : (IsOne : ℤ → Type 0) (a b : Option (ℤ × ℤ)) → IsRangeOf IsOne a → IsRangeOf IsOne b → a ≡ b
one_range IsOne None None one two = refl
one_range IsOne None (Some ends) one two = absurd (one ends.0 two.0)
one_range IsOne (Some ends) None one two = absurd (two ends.0 one.0)
one_range IsOne (Some (low, high)) (Some (least, most)) one two =
    ap (λ l. Some (l, high)) (same_number low least (one.2 least two.0).0 (two.2 low one.0).0)
    ∙ ap (λ h. Some (least, h)) (same_number high most (two.2 high one.1).1 (one.2 most two.1).1)

-- a grid has one list of levels
pub one_levels : (job : ContourJob) (asc : Asc ℤ) (a b : List ℤ) → AreLevelsOf job asc a → AreLevelsOf job asc b → a ≡ b
one_levels job asc a b one two =
    let range = one_range _ one.range two.range one.ends two.ends in
    one_list_of_levels (spec_of job) two.range a b (subst (λ r. AreLevels (spec_of job) r a) range one.are) two.are

-- a level has one list of lines
pub one_lines : (cells : Raster ℤ) (valid : Raster Bool) (level : ℤ) (a b : List (List Segment)) → AreContours (segments_of cells valid level) a → AreContours (segments_of cells valid level) b → a ≡ b
one_lines cells valid level a b one two =
    let list = one_list_of_contours cells valid level in
    list.1.1 a one ∙ sym (list.1.1 b two)

-- the text is one
pub one_contour_text : (job : ContourJob) (asc : Asc ℤ) → HasOneContourText job asc
one_contour_text job asc text other one two =
    let valid = one_mask asc one.valid two.valid one.mask two.mask in
    let levels : one.levels ≡ two.levels = one_levels job asc one.levels two.levels one.asked two.asked in
    let chained : (level : ℤ) → AreContours (segments_of asc.cells one.valid level) (two.lines level) = λ level. subst (λ v. AreContours (segments_of asc.cells v level) (two.lines level)) valid (two.chained level) in
    let each : (level : ℤ) → one.lines level ≡ two.lines level = λ level. one_lines asc.cells one.valid level (one.lines level) (two.lines level) (one.chained level) (chained level) in
    let lines : one.lines ≡ two.lines = λ i. λ level. each level i in
    one.is
    ∙ ap (λ levels. layer_text job.field (flat_map (λ level. drawn_of asc.frame asc.cells level (one.lines level)) levels)) levels
    ∙ ap (λ lines. layer_text job.field (flat_map (λ level. drawn_of asc.frame asc.cells level (lines level)) two.levels)) lines
    ∙ sym two.is

-- no grid has both too many levels and few
not_both : (job : ContourJob) (asc : Asc ℤ) (count : ℕ) (levels : List ℤ) → HasTooMany job asc count → AreLevelsOf job asc levels → length levels ≤ most_levels → ⊥
not_both job asc count levels many are few =
    let same = one_levels job asc many.0 levels many.1 are in
    omega (arith, ap length same, many.2, many.3, few)

-- the answer is one
pub one_answer : (job : ContourJob) (source : Result (Asc ℤ) Fault) (a b : Answer) → AnswersContour job source a → AnswersContour job source b → a ≡ b
one_answer job (Err fault) a b one two = one ∙ sym two
one_answer job (Ok asc) (Err fault) (Err other) one two =
    let levels = one_levels job asc one.1.0 two.1.0 one.1.1 two.1.1 in
    let counts : one.0 ≡ two.0 = sym one.1.2 ∙ ap length levels ∙ two.1.2 in
    ap Err (one.2 ∙ ap TooManyLevels counts ∙ sym two.2)
one_answer job (Ok asc) (Err fault) (Ok other) one two = absurd (not_both job asc one.0 two.levels one.1 two.asked two.few)
one_answer job (Ok asc) (Ok text) (Err fault) one two = absurd (not_both job asc two.0 one.levels two.1 one.asked one.few)
one_answer job (Ok asc) (Ok text) (Ok other) one two = ap Ok (one_contour_text job asc text other one two)
