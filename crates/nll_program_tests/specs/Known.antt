-- Texts and streams of which all is known.
-- Source: project's choice.
use Rattle.std.specs.Prelude.{◌≡◌, ◌≢◌, ℕ, ◌-◌, List, take}
use Rattle.nll_program_tests.specs.declared.known.Sheet.{Sheet}
use Rattle.nll_program_tests.specs.declared.page.Page.{Page}

-- exactly the sheet's text is held, at the sheet's path
abbrev pub is_sheet : Sheet → List ℕ → List ℕ → Type 0
is_sheet sheet path text = (path ≡ sheet.path.now) × (text ≡ sheet.text.now)

-- at each other path there is no text
abbrev pub is_elsewhere : Sheet → List ℕ → Type 0
is_elsewhere sheet path = path ≢ sheet.path.now

-- the bytes on a page
abbrev pub bytes_of : Page → List ℕ
bytes_of page = take page.length page.bytes

-- how many more bytes a page takes
abbrev pub room_of : Page → ℕ
room_of page = 1024 - page.length
