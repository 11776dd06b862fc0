-- What check makes, and what its steps leave.
use Rattle.std.proofs.Common.{◌≡◌, ◌∙◌, ◌⊎◌, inl, inr, ℕ, ℤ, ◌+◌, ◌*◌, ◌<◌, ◌≤◌, List, Option, Some, None, Result, Ok, Err, OnErr, OnOk, IfErr, IfSome, length, take, map, refl, sym, ap, subst, arith}
use Rattle.std.specs.Prelude.{pos, slice_get}
use Rattle.std.specs.List.{range_with_len}
use Rattle.std.proofs.lemmas.List.{take_all}
use Rattle.std.proofs.lemmas.List.FromFn.{length-map-range_with_len}
use Rattle.std.proofs.lemmas.Option.{same_Some}
use Rattle.std.proofs.Math.Nat.{mul-le-mul_right}
use Rattle.rv_outside.specs.Causes.{Counts}
use Rattle.rv_outside.specs.Files.{Files, Becomes, with_file}
use Rattle.rv_outside.specs.Folder.{FolderState}
use Rattle.rv_outside.proofs.FilesLemmas.{bytes_eq-itself}
use Rattle.cell_base.specs.Inner.Cells.{HasCellForEachPlace}
use Rattle.cell_base.specs.Raster.{Place, Raster, most_cells, raster_of, value_at, IsInside}
use Rattle.cell_base.proofs.RasterLemmas.{raster_from_cells, value_at-raster_of}
use Rattle.asc_grid.specs.declared.fault.GridFault.TheVariants as grid
use Rattle.asc_grid.specs.declared.fault.GridKind.{GridKind}
use Rattle.asc_grid.specs.declared.fault.GridKind.TheVariants as kind
use Rattle.asc_grid.specs.declared.grid.Asc.{Asc}
use Rattle.geo_transform.specs.declared.fault.FrameFault.TheVariants as frame
use Rattle.ogr_csv.specs.declared.fault.LayerFault.TheVariants as layer
use Rattle.tool_words.specs.Check.{FitsCheck}
use Rattle.tool_words.specs.declared.job.CheckJob.{CheckJob}
use Rattle.tool_words.specs.declared.job.Job.TheVariants.{Polygonize, Rasterize}
use Rattle.tool_words.specs.declared.job.PolygonizeJob.{PolygonizeJob}
use Rattle.tool_words.specs.declared.job.RasterizeJob.{RasterizeJob}
use Rattle.tool_outcome.specs.Answer.{Answer, AnswersBy}
use Rattle.tool_outcome.specs.Check.{checked_grid, drawn_value, layer_job}
use Rattle.tool_outcome.specs.Outcome.{Does, LeavesPart}
use Rattle.tool_outcome.specs.Polygonize.{IsPolygonizeText}
use Rattle.tool_outcome.specs.Rasterize.{rasterize_answer}
use Rattle.tool_outcome.specs.Source.{source_of, text_of}
use Rattle.tool_outcome.specs.Status.{IsDecided, status_of, status_of_fault}
use Rattle.tool_outcome.specs.declared.fault.Fault.{Fault}
use Rattle.tool_outcome.specs.declared.fault.Fault.TheVariants as fault
use Rattle.tool_outcome.specs.declared.fault.Role.TheVariants.{Source}
use Rattle.tool_outcome.specs.declared.status.Status.{Status}
use Rattle.tool_outcome.specs.declared.status.Status.TheVariants.{Done}
use Rattle.round_trip.specs.Check.{burn_job}
use Rattle.round_trip.proofs.CheckLemmas.{checked_again, checked_back, made_at}
use Rattle.round_trip.proofs.GridLemmas.{raster_is}
use Rattle.tool_run.specs.Causes.{HasCauses, IsToolFault}
use Rattle.tool_run.specs.Check.{HasChecked, IsCheckFault, IsLayerOf, LeavesChecked, with_back, with_grid, with_layer}
use Rattle.tool_run.specs.Inner.Checked.{HasBackPart, HasLayer, HasLayerPart, IsCutOff, OverGrid, OverLayer}
use Rattle.tool_run.specs.Inner.Steps.{IsPartWritten, IsWriteFault}

-- the cells that are drawn in row order are those of the grid
pub grid_made : (job : CheckJob) (cells : List ℤ) → FitsCheck job → job.width * job.height ≤ most_cells
    → cells ≡ map (drawn_value job) (range_with_len 0 (job.width * job.height)) → raster_of job.width job.height cells ≡ (checked_grid job).cells
grid_made job cells fits few is = sym (raster_is made (pos 0) at (raster_from_cells job.width job.height cells full) each)
  where
    made : Raster ℤ
    made = raster_of job.width job.height cells

    at : Place → ℤ
    at cell = drawn_value job (cell.0 * job.width + cell.1)

    long : length cells ≡ job.width * job.height
    long = ap length is ∙ length-map-range_with_len (drawn_value job) 0 (job.width * job.height)

    full : HasCellForEachPlace job.width job.height cells
    full = record { some_cols = omega (arith, fits.width_from_one); some_rows = omega (arith, fits.height_from_one); small = few; count = long }

    each : (p : Place) (x : ℤ) → IsInside made p → value_at made p ≡ Some x → at p ≡ x
    each p x inside value =
        let below : (p.0 + 1) * job.width ≤ job.height * job.width = mul-le-mul_right job.width (omega (arith, inside.0)) in
        let within : p.0 * job.width + p.1 < job.width * job.height = omega (arith, below, inside.1) in
        same_Some (at p) x
        (sym (ap (λ (xs : List ℤ). slice_get xs (p.0 * job.width + p.1)) is ∙ made_at (drawn_value job) (job.width * job.height) (p.0 * job.width + p.1) within)
        ∙ sym (value_at-raster_of job.width job.height cells p.0 p.1 inside.0 inside.1) ∙ value)

-- a fault of a tool cut it off, or decides its outcome
cut_or_decided : (offence : Fault) → IsToolFault offence → IsCutOff offence ⊎ IsDecided (status_of_fault offence)
cut_or_decided (fault.Missing Source) is = inr tt
cut_or_decided (fault.ReadFault Source) is = inl tt
cut_or_decided (fault.Grid Source (grid.At k line)) is = inr (by_kind k)
  where
    by_kind : (k : GridKind) → IsDecided (status_of_fault (fault.Grid Source (grid.At k line)))
    by_kind (kind.TooLarge cells) = tt
    by_kind kind.UnknownKeyword = tt
    by_kind kind.RepeatedKeyword = tt
    by_kind kind.MissingKeyword = tt
    by_kind kind.BadNumber = tt
    by_kind kind.OutOfRange = tt
    by_kind kind.BadCell = tt
    by_kind kind.TooFewCells = tt
    by_kind kind.TooManyCells = tt
cut_or_decided (fault.Layer layer.NoHeader) is = inr tt
cut_or_decided (fault.Layer layer.NoGeometryColumn) is = inr tt
cut_or_decided (fault.Layer layer.NoField) is = inr tt
cut_or_decided (fault.Layer (layer.BadGeometry at k byte)) is = inr tt
cut_or_decided (fault.Layer (layer.BadAttribute at)) is = inr tt
cut_or_decided (fault.Layer layer.NoMemory) is = absurd is
cut_or_decided (fault.TooManyLevels count) is = inr tt
cut_or_decided (fault.NotPolygon number) is = inr tt
cut_or_decided fault.NoExtent is = inr tt
cut_or_decided (fault.Frame (frame.TooLarge cells)) is = inr tt
cut_or_decided (fault.Frame frame.BadSize) is = inr tt
cut_or_decided (fault.Frame frame.BadCell) is = inr tt
cut_or_decided (fault.Frame frame.NotSquare) is = inr tt
cut_or_decided (fault.Frame frame.OutOfRange) is = inr tt
cut_or_decided fault.WriteFault is = inl tt
cut_or_decided fault.NoMemory is = inl tt
cut_or_decided other is = absurd is

-- over the grid's file the source of the layer has the grid
source_is : (job : CheckJob) (files : Files) → FitsCheck job → job.width * job.height ≤ most_cells → files layer_job.source ≡ Some (text_of (checked_grid job))
    → source_of (files layer_job.source) ≡ Ok (checked_grid job)
source_is job files fits few told = ap source_of told ∙ checked_back job fits few

answers_grid : (job : CheckJob) (source : Result (Asc ℤ) Fault) (answer : Answer) → source ≡ Ok (checked_grid job) → AnswersBy (IsPolygonizeText layer_job) source answer
    → AnswersBy (IsPolygonizeText layer_job) (Ok (checked_grid job)) answer
answers_grid job source answer is answers = subst (λ (s : Result (Asc ℤ) Fault). AnswersBy (IsPolygonizeText layer_job) s answer) is answers

-- the layer of the grid's file

pub layer_done : (job : CheckJob) (old new : Option Files) → FitsCheck job → job.width * job.height ≤ most_cells
    → IfSome old (λ files. Does (Polygonize layer_job) files (Ok tt) new) → OverGrid job old (λ files. HasLayer job files new)
layer_done job None new fits few does = tt
layer_done job (Some files) new fits few (text, answers, now) = λ told.
    (text, answers_grid job (source_of (files layer_job.source)) (Ok text) (source_is job files fits few told) answers, now)

pub layer_part : (job : CheckJob) (old new : Option Files) → FitsCheck job → job.width * job.height ≤ most_cells
    → IfSome old (λ files. LeavesPart (Polygonize layer_job) files new) → OverGrid job old (λ files. HasLayerPart job files new)
layer_part job None new fits few part = tt
layer_part job (Some files) new fits few part = λ told. elim part [
  | inl same ↦ inl same
  | inr some ↦ inr (some.0, some.1, answers_grid job (source_of (files layer_job.source)) (Ok some.0) (source_is job files fits few told) some.2, some.3)
]

pub layer_cut : (job : CheckJob) (old new : Option Files) (offence : Fault) → FitsCheck job → job.width * job.height ≤ most_cells → IsToolFault offence
    → (IsDecided (status_of_fault offence) → IfSome old (λ files. Does (Polygonize layer_job) files (Err offence) new)) → OverGrid job old (λ files. IsCutOff offence)
layer_cut job None new offence fits few is does = tt
layer_cut job (Some files) new offence fits few is does = λ told. elim (cut_or_decided offence is) [
  | inl cut ↦ cut
  | inr decided ↦ absurd (answers_grid job (source_of (files layer_job.source)) (Err offence) (source_is job files fits few told) (does decided).0)
]

-- the same of any answer

pub layer_ok : (job : CheckJob) (made : PolygonizeJob) (old new : Option Files) (r : Result (Unit {0}) Fault) → FitsCheck job → job.width * job.height ≤ most_cells
    → made ≡ layer_job → (IsDecided (status_of r) → IfSome old (λ files. Does (Polygonize made) files r new)) → OnOk r (OverGrid job old (λ files. HasLayer job files new))
layer_ok job made old new (Ok u) fits few is does = layer_done job old new fits few (subst (λ m. IfSome old (λ files. Does (Polygonize m) files (Ok tt) new)) is (does tt))
layer_ok job made old new (Err offence) fits few is does = tt

pub layer_err : (job : CheckJob) (made : PolygonizeJob) (old new : Option Files) (r : Result (Unit {0}) Fault) → FitsCheck job → job.width * job.height ≤ most_cells
    → made ≡ layer_job → OnErr r (IfSome old (λ files. LeavesPart (Polygonize made) files new)) → OnErr r (OverGrid job old (λ files. HasLayerPart job files new))
layer_err job made old new (Ok u) fits few is part = tt
layer_err job made old new (Err offence) fits few is part = layer_part job old new fits few (subst (λ m. IfSome old (λ files. LeavesPart (Polygonize m) files new)) is part)

pub layer_kind : (job : CheckJob) (made : PolygonizeJob) (old new : Option Files) (r : Result (Unit {0}) Fault) → FitsCheck job → job.width * job.height ≤ most_cells
    → made ≡ layer_job → IfErr r IsToolFault → (IsDecided (status_of r) → IfSome old (λ files. Does (Polygonize made) files r new))
    → IfErr r (λ offence. OverGrid job old (λ files. IsCutOff offence))
layer_kind job made old new (Ok u) fits few is kind does = tt
layer_kind job made old new (Err offence) fits few is kind does =
    layer_cut job old new offence fits few kind (subst (λ m. IsDecided (status_of_fault offence) → IfSome old (λ files. Does (Polygonize m) files (Err offence) new)) is does)

-- the grid that comes back

text_back : (job : CheckJob) (files : Files) (text grid : List ℕ) → Ok text ≡ rasterize_answer (burn_job job) files → rasterize_answer (burn_job job) files ≡ Ok grid → text ≡ grid
text_back job files text grid one two =
    let same : ◌≡◌ {A = Answer} (Ok text) (Ok grid) = one ∙ two in
    cc

pub back_done : (job : CheckJob) (old new : Option Files) → FitsCheck job → job.width * job.height ≤ most_cells
    → IfSome old (λ files. Does (Rasterize (burn_job job)) files (Ok tt) new)
    → OverLayer job old (λ files. new ≡ Some (with_back job (text_of (checked_grid job)) files))
back_done job None new fits few does = tt
back_done job (Some files) new fits few (text, answers, now) = λ written is_layer told.
    let same = text_back job files text (text_of (checked_grid job)) answers (checked_again job written files fits few is_layer told) in
    now ∙ ap (λ (bytes : List ℕ). Some (with_back job bytes files)) same

pub back_part : (job : CheckJob) (old new : Option Files) → FitsCheck job → job.width * job.height ≤ most_cells
    → IfSome old (λ files. LeavesPart (Rasterize (burn_job job)) files new) → OverLayer job old (λ files. HasBackPart job files new)
back_part job None new fits few part = tt
back_part job (Some files) new fits few part = λ written is_layer told. elim part [
  | inl same ↦ inl same
  | inr some ↦
      let same = text_back job files some.0 (text_of (checked_grid job)) some.2 (checked_again job written files fits few is_layer told) in
      inr (some.1, some.3 ∙ ap (λ (bytes : List ℕ). Some (with_back job (take some.1 bytes) files)) same)
]

pub back_cut : (job : CheckJob) (old new : Option Files) (offence : Fault) → FitsCheck job → job.width * job.height ≤ most_cells → IsToolFault offence
    → (IsDecided (status_of_fault offence) → IfSome old (λ files. Does (Rasterize (burn_job job)) files (Err offence) new)) → OverLayer job old (λ files. IsCutOff offence)
back_cut job None new offence fits few is does = tt
back_cut job (Some files) new offence fits few is does = λ written is_layer told. elim (cut_or_decided offence is) [
  | inl cut ↦ cut
  | inr decided ↦
      let other : ◌≡◌ {A = Answer} (Err offence) (Ok (text_of (checked_grid job))) = (does decided).0 ∙ checked_again job written files fits few is_layer told in
      absurd (cc other)
]

-- the same of any answer

pub back_ok : (job : CheckJob) (made : RasterizeJob) (old new : Option Files) (r : Result (Unit {0}) Fault) → FitsCheck job → job.width * job.height ≤ most_cells
    → made ≡ burn_job job → (IsDecided (status_of r) → IfSome old (λ files. Does (Rasterize made) files r new))
    → OnOk r (OverLayer job old (λ files. new ≡ Some (with_back job (text_of (checked_grid job)) files)))
back_ok job made old new (Ok u) fits few is does = back_done job old new fits few (subst (λ m. IfSome old (λ files. Does (Rasterize m) files (Ok tt) new)) is (does tt))
back_ok job made old new (Err offence) fits few is does = tt

pub back_err : (job : CheckJob) (made : RasterizeJob) (old new : Option Files) (r : Result (Unit {0}) Fault) → FitsCheck job → job.width * job.height ≤ most_cells
    → made ≡ burn_job job → OnErr r (IfSome old (λ files. LeavesPart (Rasterize made) files new)) → OnErr r (OverLayer job old (λ files. HasBackPart job files new))
back_err job made old new (Ok u) fits few is part = tt
back_err job made old new (Err offence) fits few is part = back_part job old new fits few (subst (λ m. IfSome old (λ files. LeavesPart (Rasterize m) files new)) is part)

pub back_kind : (job : CheckJob) (made : RasterizeJob) (old new : Option Files) (r : Result (Unit {0}) Fault) → FitsCheck job → job.width * job.height ≤ most_cells
    → made ≡ burn_job job → IfErr r IsToolFault → (IsDecided (status_of r) → IfSome old (λ files. Does (Rasterize made) files r new))
    → IfErr r (λ offence. OverLayer job old (λ files. IsCutOff offence))
back_kind job made old new (Ok u) fits few is kind does = tt
back_kind job made old new (Err offence) fits few is kind does =
    back_cut job old new offence fits few kind (subst (λ m. IsDecided (status_of_fault offence) → IfSome old (λ files. Does (Rasterize m) files (Err offence) new)) is does)

-- the three steps, one after the other

with_told : (name bytes : List ℕ) (files : Files) → with_file name bytes files name ≡ Some bytes
with_told name bytes files = rw (bytes_eq-itself name) refl

-- the folder after the grid was written
pub record WroteGrid (job : CheckJob) (old mid : Option Files) : Type 0 where
  pub wrote : Becomes old mid (with_grid (text_of (checked_grid job)))

-- and after its layer was
pub record WroteLayer (job : CheckJob) (old mid late : Option Files) : Type 0 where
  pub grid : WroteGrid job old mid
  pub wrote : OverGrid job mid (λ files. HasLayer job files late)

after_layer : (job : CheckJob) (files : Files) (mid late : Option Files) → WroteLayer job (Some files) mid late
    → (written : List ℕ) × IsLayerOf job written × (late ≡ Some (with_layer written (with_grid (text_of (checked_grid job)) files)))
after_layer job files mid late was =
    let there : OverGrid job (Some (with_grid (text_of (checked_grid job)) files)) (λ fs. HasLayer job fs late) =
    subst (λ (o : Option Files). OverGrid job o (λ fs. HasLayer job fs late)) was.grid.wrote was.wrote in
    there (with_told layer_job.source (text_of (checked_grid job)) files)

pub has_checked : (job : CheckJob) (old mid late new : Option Files) → WroteLayer job old mid late
    → OverLayer job late (λ files. new ≡ Some (with_back job (text_of (checked_grid job)) files)) → IfSome old (λ files. HasChecked job files new)
has_checked job None mid late new was back = tt
has_checked job (Some files) mid late new was back =
    let after = after_layer job files mid late was in
    let grid : Files = with_grid (text_of (checked_grid job)) files in
    let there : OverLayer job (Some (with_layer after.0 grid)) (λ fs. new ≡ Some (with_back job (text_of (checked_grid job)) fs)) =
    subst (λ (o : Option Files). OverLayer job o (λ fs. new ≡ Some (with_back job (text_of (checked_grid job)) fs))) after.2 back in
    (after.0, after.1, there after.0 after.1 (with_told layer_job.dest after.0 grid))

-- what a refusal leaves

pub leaves_same : (job : CheckJob) (old : Option Files) → IfSome old (λ files. LeavesChecked job files old)
leaves_same job None = tt
leaves_same job (Some files) = inl refl

pub leaves_grid : (job : CheckJob) (old new : Option Files) → IsPartWritten old new layer_job.source (text_of (checked_grid job)) → IfSome old (λ files. LeavesChecked job files new)
leaves_grid job None new part = tt
leaves_grid job (Some files) new part = elim part [ inl same ↦ inl same | inr some ↦ inr (inl (some.0, some.1)) ]

all_of : (text : List ℕ) → take (length text) text ≡ text
all_of text = take_all (length text) text (omega arith)

whole_grid : (job : CheckJob) (files : Files) (new : Option Files) → new ≡ Some (with_grid (text_of (checked_grid job)) files) → LeavesChecked job files new
whole_grid job files new is =
    let text = text_of (checked_grid job) in
    inr (inl (length text, is ∙ ap (λ (bytes : List ℕ). Some (with_grid bytes files)) (sym (all_of text))))

-- no memory for the layer's job
pub leaves_whole_grid : (job : CheckJob) (old mid : Option Files) → WroteGrid job old mid → IfSome old (λ files. LeavesChecked job files mid)
leaves_whole_grid job None mid was = tt
leaves_whole_grid job (Some files) mid was = whole_grid job files mid was.wrote

pub leaves_layer : (job : CheckJob) (old mid new : Option Files) → WroteGrid job old mid → OverGrid job mid (λ files. HasLayerPart job files new) → IfSome old (λ files. LeavesChecked job files new)
leaves_layer job None mid new was part = tt
leaves_layer job (Some files) mid new was part =
    let there : OverGrid job (Some (with_grid (text_of (checked_grid job)) files)) (λ fs. HasLayerPart job fs new) =
    subst (λ (o : Option Files). OverGrid job o (λ fs. HasLayerPart job fs new)) was.wrote part in
    elim (there (with_told layer_job.source (text_of (checked_grid job)) files)) [
      | inl same ↦ whole_grid job files new same
      | inr some ↦ inr (inr (inl (some.0, some.1, some.2, some.3)))
    ]

pub leaves_back : (job : CheckJob) (old mid late new : Option Files) → WroteLayer job old mid late → OverLayer job late (λ files. HasBackPart job files new) → IfSome old (λ files. LeavesChecked job files new)
leaves_back job None mid late new was part = tt
leaves_back job (Some files) mid late new was part =
    let after = after_layer job files mid late was in
    let grid : Files = with_grid (text_of (checked_grid job)) files in
    let there : OverLayer job (Some (with_layer after.0 grid)) (λ fs. HasBackPart job fs new) =
    subst (λ (o : Option Files). OverLayer job o (λ fs. HasBackPart job fs new)) after.2 part in
    elim (there after.0 after.1 (with_told layer_job.dest after.0 grid)) [
      | inl same ↦ inr (inr (inl (after.0, length after.0, after.1, same ∙ ap (λ (bytes : List ℕ). Some (with_layer bytes grid)) (sym (all_of after.0)))))
      | inr some ↦ inr (inr (inr (after.0, some.0, after.1, some.1)))
    ]

-- which faults there are

write_is_cut : (job : CheckJob) (offence : Fault) → IsWriteFault offence → IsCheckFault job offence
write_is_cut job fault.WriteFault is = tt
write_is_cut job fault.NoMemory is = tt
write_is_cut job other is = absurd is

cut_is_fault : (job : CheckJob) (offence : Fault) → IsCutOff offence → IsCheckFault job offence
cut_is_fault job (fault.ReadFault Source) is = tt
cut_is_fault job fault.WriteFault is = tt
cut_is_fault job fault.NoMemory is = tt
cut_is_fault job other is = absurd is

pub grid_fault : (job : CheckJob) (old : Option Files) (offence : Fault) → IsWriteFault offence → IfSome old (λ files. IsCheckFault job offence)
grid_fault job None offence is = tt
grid_fault job (Some files) offence is = write_is_cut job offence is

pub layer_fault : (job : CheckJob) (old mid : Option Files) (offence : Fault) → WroteGrid job old mid → OverGrid job mid (λ files. IsCutOff offence) → IfSome old (λ files. IsCheckFault job offence)
layer_fault job None mid offence was cut = tt
layer_fault job (Some files) mid offence was cut =
    let there : OverGrid job (Some (with_grid (text_of (checked_grid job)) files)) (λ fs. IsCutOff offence) =
    subst (λ (o : Option Files). OverGrid job o (λ fs. IsCutOff offence)) was.wrote cut in
    cut_is_fault job offence (there (with_told layer_job.source (text_of (checked_grid job)) files))

pub back_fault : (job : CheckJob) (old mid late : Option Files) (offence : Fault) → WroteLayer job old mid late → OverLayer job late (λ files. IsCutOff offence) → IfSome old (λ files. IsCheckFault job offence)
back_fault job None mid late offence was cut = tt
back_fault job (Some files) mid late offence was cut =
    let after = after_layer job files mid late was in
    let grid : Files = with_grid (text_of (checked_grid job)) files in
    let there : OverLayer job (Some (with_layer after.0 grid)) (λ fs. IsCutOff offence) =
    subst (λ (o : Option Files). OverLayer job o (λ fs. IsCutOff offence)) after.2 cut in
    cut_is_fault job offence (there after.0 after.1 (with_told layer_job.dest after.0 grid))

-- counts of steps, one after the other

counts_then : {A : Type 0} (old mid new : ℕ) → mid ≡ old → Counts A mid new → Counts A old new
counts_then old mid new same counts = rw same at counts

done_same : (old new : FolderState) → HasCauses Done old new → (new.missing ≡ old.missing) × (new.read_faults ≡ old.read_faults) × (new.write_faults ≡ old.write_faults)
done_same old new causes = (
  causes.missing.stood (λ is. absurd (cc is)),
  causes.read_faults.stood (λ is. absurd (cc is)),
  causes.write_faults.stood (λ is. absurd (cc is)),
)

pub causes_then : (status : Status) (old mid new : FolderState) → HasCauses Done old mid → HasCauses status mid new → HasCauses status old new
causes_then status old mid new first causes =
    let same = done_same old mid first in
    record {
      missing = counts_then old.missing mid.missing new.missing same.0 causes.missing;
      read_faults = counts_then old.read_faults mid.read_faults new.read_faults same.1 causes.read_faults;
      write_faults = counts_then old.write_faults mid.write_faults new.write_faults same.2 causes.write_faults;
    }
