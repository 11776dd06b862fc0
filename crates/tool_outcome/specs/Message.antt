-- The line that a run writes to standard error. Source: this project's own.
use Rattle.std.specs.Prelude.{◌≡◌, ℕ, List, [], ◌++◌, Ok, Err, codes, decimal}
use Rattle.std.specs.declared.result.Result.{Result}
use Rattle.asc_grid.specs.declared.fault.GridKind.{GridKind}
use Rattle.asc_grid.specs.declared.fault.GridKind.TheVariants.{UnknownKeyword, RepeatedKeyword, MissingKeyword, BadNumber, OutOfRange, TooLarge, BadCell, TooFewCells, TooManyCells}
use Rattle.asc_grid.specs.declared.fault.GridFault.{GridFault}
use Rattle.asc_grid.specs.declared.fault.GridFault.TheVariants as grid
use Rattle.geo_transform.specs.declared.fault.FrameFault.{FrameFault}
use Rattle.geo_transform.specs.declared.fault.FrameFault.TheVariants as frame
use Rattle.wkt_text.specs.declared.fault.WktKind.{WktKind}
use Rattle.wkt_text.specs.declared.fault.WktKind.TheVariants as wkt
use Rattle.ogr_csv.specs.declared.fault.LayerFault.{LayerFault}
use Rattle.ogr_csv.specs.declared.fault.LayerFault.TheVariants as layer
use Rattle.tool_words.specs.Words.{Text}
use Rattle.tool_words.specs.declared.fault.WordKind.{WordKind}
use Rattle.tool_words.specs.declared.fault.WordKind.TheVariants as word
use Rattle.tool_words.specs.declared.fault.WordFault.{WordFault}
use Rattle.tool_words.specs.declared.fault.WordFault.TheVariants as words
use Rattle.tool_words.specs.declared.job.Job.{Job}
use Rattle.tool_words.specs.declared.job.Job.TheVariants.{Sieve, Polygonize, Rasterize, Contour, Check}
use Rattle.tool_outcome.specs.Status.{status_of_fault, status_of_words}
use Rattle.tool_outcome.specs.declared.fault.Fault.{Fault}
use Rattle.tool_outcome.specs.declared.fault.Fault.TheVariants as fault
use Rattle.tool_outcome.specs.declared.status.Status.{Status}
use Rattle.tool_outcome.specs.declared.status.Status.TheVariants.{Done}

-- what is wrong with a word
abbrev pub word_text : WordKind → List ℕ
word_text word.NoTool = codes "no tool"
word_text word.UnknownTool = codes "unknown tool"
word_text word.UnknownOption = codes "unknown option"
word_text word.MissingValue = codes "missing value"
word_text word.BadValue = codes "bad value"
word_text word.MissingName = codes "missing name"
word_text word.ExtraWord = codes "extra word"
word_text word.Combination = codes "bad combination"

-- the line of refused words
abbrev pub line_of_words : WordFault → List ℕ
line_of_words (words.At kind place) =
    codes "gdal_tools: " ++ word_text kind ++ codes " at word " ++ decimal place ++ codes "\n"
line_of_words words.NoMemory = codes "out of memory\n"

-- what is wrong with a grid
abbrev pub grid_text : GridKind → List ℕ
grid_text UnknownKeyword = codes "unknown keyword"
grid_text RepeatedKeyword = codes "repeated keyword"
grid_text MissingKeyword = codes "missing keyword"
grid_text BadNumber = codes "bad number"
grid_text OutOfRange = codes "out of range"
grid_text (TooLarge cells) = codes "too large: " ++ decimal cells
grid_text BadCell = codes "bad cell"
grid_text TooFewCells = codes "too few cells"
grid_text TooManyCells = codes "too many cells"

-- the line of a grid's offence
abbrev pub line_of_grid : Text → GridFault → List ℕ
line_of_grid name (grid.At kind line) = name ++ codes ": line " ++ decimal line ++ codes ": " ++ grid_text kind ++ codes "\n"
line_of_grid name grid.NoMemory = codes "out of memory\n"

-- what is wrong with a geometry
abbrev pub wkt_text : WktKind → List ℕ
wkt_text wkt.UnknownKind = codes "unknown kind"
wkt_text wkt.Dimension = codes "bad dimension"
wkt_text wkt.Syntax = codes "bad syntax"
wkt_text wkt.BadNumber = codes "bad number"
wkt_text wkt.OutOfRange = codes "out of range"
wkt_text wkt.ShortRing = codes "short ring"
wkt_text wkt.OpenRing = codes "open ring"

-- the line of what is wrong with a record
abbrev pub line_of_record : Text → ℕ → List ℕ → List ℕ
line_of_record name number text = name ++ codes ": record " ++ decimal number ++ codes ": " ++ text ++ codes "\n"

-- the line of a refused layer
abbrev pub line_of_layer : Text → LayerFault → List ℕ
line_of_layer name layer.NoHeader = name ++ codes ": no header\n"
line_of_layer name layer.NoGeometryColumn = name ++ codes ": no geometry column\n"
line_of_layer name layer.NoField = name ++ codes ": no such field\n"
line_of_layer name (layer.BadGeometry at kind byte) =
    line_of_record name at (wkt_text kind ++ codes " at byte " ++ decimal byte)
line_of_layer name (layer.BadAttribute at) = line_of_record name at (codes "bad attribute")
line_of_layer name layer.NoMemory = codes "out of memory\n"

-- what is wrong with a frame
abbrev pub frame_text : FrameFault → List ℕ
frame_text frame.BadSize = codes "bad size"
frame_text (frame.TooLarge cells) = codes "too large: " ++ decimal cells
frame_text frame.BadCell = codes "bad cell"
frame_text frame.NotSquare = codes "not square"
frame_text frame.OutOfRange = codes "out of range"

-- the line of a frame's fault
abbrev pub line_of_frame : FrameFault → List ℕ
line_of_frame offence = codes "frame: " ++ frame_text offence ++ codes "\n"

-- the names of a job's source and destination; check has no files, and what it writes to is named as output

abbrev pub source_of_job : Job → Text
source_of_job (Sieve job) = job.source
source_of_job (Polygonize job) = job.source
source_of_job (Rasterize job) = job.source
source_of_job (Contour job) = job.source
source_of_job (Check job) = codes "output"

abbrev pub dest_of_job : Job → Text
dest_of_job (Sieve job) = job.dest
dest_of_job (Polygonize job) = job.dest
dest_of_job (Rasterize job) = job.dest
dest_of_job (Contour job) = job.dest
dest_of_job (Check job) = codes "output"

-- the line of a fault, by the names of the source and the destination
abbrev pub line_of_fault : Text → Text → Fault → List ℕ
line_of_fault source dest (fault.Missing role) = source ++ codes ": no such file\n"
line_of_fault source dest (fault.ReadFault role) = source ++ codes ": read failed\n"
line_of_fault source dest (fault.Grid role offence) = line_of_grid source offence
line_of_fault source dest (fault.TooManyLevels count) = codes "levels: too many: " ++ decimal count ++ codes "\n"
line_of_fault source dest (fault.Layer offence) = line_of_layer source offence
line_of_fault source dest (fault.NotPolygon number) = line_of_record source number (codes "not a polygon")
line_of_fault source dest fault.NoExtent = source ++ codes ": no extent\n"
line_of_fault source dest (fault.Frame offence) = line_of_frame offence
line_of_fault source dest fault.WriteFault = dest ++ codes ": write failed\n"
line_of_fault source dest fault.NoMemory = codes "out of memory\n"

-- the line of an answer, none where the job was done
abbrev pub line_of_answer : Text → Text → Result (Unit {0}) Fault → List ℕ
line_of_answer source dest (Ok u) = []
line_of_answer source dest (Err fault) = line_of_fault source dest fault

-- the line of a job's fault
abbrev pub line_of_job : Job → Fault → List ℕ
line_of_job job fault = line_of_fault (source_of_job job) (dest_of_job job) fault

-- a line that a run can have that ended so, whatever the files: none where the job was done, and else that of a fault
-- with this status
abbrev pub IsLine : Result Job WordFault → Status → List ℕ → Type 0
IsLine (Err fault) status line = (status ≡ status_of_words fault) × (line ≡ line_of_words fault)
IsLine (Ok job) Done line = line ≡ []
IsLine (Ok job) status line = (fault : Fault) × (status_of_fault fault ≡ status) × (line ≡ line_of_job job fault)
