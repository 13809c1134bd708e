-- What spells forms is read as these forms again, and the form that is written is the shortest.
use Rattle.std.specs.Prelude.{◌≡◌, ℕ, ◌<◌, ◌^◌, List, ◌++◌, length, get_or}
use Rattle.std.specs.List.{AllByRecursion}
use Rattle.par_frame_forms.specs.declared.form.FrameForm.{FrameForm}
use Rattle.par_frame_forms.specs.Spelled.{FormFits, spelled_all, TypesFit, Said, IsWritten}
use Rattle.par_frame_forms.specs.declared.form.PlaceType.{PlaceType}
use Rattle.par_frame_forms.specs.Written.{written}
use Rattle.par_frame_forms.specs.Reading.{read_forms, gives}

abbrev pub SpelledFormsAreRead : Type 0
SpelledFormsAreRead =
    (fs : List FrameForm) (rest : List ℕ) → AllByRecursion FormFits fs
    → read_forms (length fs) (spelled_all fs ++ rest) ≡ gives fs rest

-- what many forms are spelled by, and what is behind them
pub record AreSpelled (many : ℕ) (bytes : List ℕ) (fs : List FrameForm) (rest : List ℕ) : Type 0
  where
    pub parts : bytes ≡ spelled_all fs ++ rest
    pub number : length fs ≡ many
    pub fits : AllByRecursion FormFits fs

-- bytes that are read as forms are what spells these forms, so that they spell no others
abbrev pub ReadFormsAreSpelled : Type 0
ReadFormsAreSpelled =
    (many : ℕ) (bytes : List ℕ) (fs : List FrameForm) (rest : List ℕ)
    → ((i : ℕ) → get_or bytes i 0 < 256) → read_forms many bytes ≡ gives fs rest
    → AreSpelled many bytes fs rest

-- the numbers of a frame have room in an attribute
pub record SaidFits (said : Said) : Type 0 where
  pub delta : said.delta < 2 ^ 16
  pub few : length said.locals < 2 ^ 16
  pub locals : TypesFit said.locals
  pub low : length said.stack < 2 ^ 16
  pub stack : TypesFit said.stack

abbrev pub WrittenIsShortest : Type 0
WrittenIsShortest =
    (listed : List PlaceType) (said : Said) → SaidFits said
    → IsWritten listed said (written listed said)
