-- The words of each tool.
use Rattle.std.proofs.Common.{◌≡◌, ◌∙◌, List, Some, drop, ap}
use Rattle.std.specs.Prelude.{codes, slice_get}
use Rattle.tool_words.specs.Words.{Text}
use Rattle.tool_words.specs.Job.{check_words, contour_words, job_of, rasterize_words, words_of_tool}
use Rattle.tool_words.proofs.CutLemmas.{word_at}

by_name : (words : List Text) (tool name : Text) → slice_get words 0 ≡ Some tool → tool ≡ name → job_of words ≡ words_of_tool name (drop 1 words)
by_name words tool name first is = ap job_of (word_at words 0 tool first) ∙ ap (λ t. words_of_tool t (drop 1 words)) is

pub of_rasterize : (words : List Text) (tool : Text) → slice_get words 0 ≡ Some tool → tool ≡ codes "gdal_rasterize" → job_of words ≡ rasterize_words (drop 1 words)
of_rasterize words tool first is = by_name words tool (codes "gdal_rasterize") first is

pub of_contour : (words : List Text) (tool : Text) → slice_get words 0 ≡ Some tool → tool ≡ codes "gdal_contour" → job_of words ≡ contour_words (drop 1 words)
of_contour words tool first is = by_name words tool (codes "gdal_contour") first is

pub of_check : (words : List Text) (tool : Text) → slice_get words 0 ≡ Some tool → tool ≡ codes "check" → job_of words ≡ check_words (drop 1 words)
of_check words tool first is = by_name words tool (codes "check") first is
