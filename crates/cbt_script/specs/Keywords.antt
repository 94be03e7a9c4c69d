-- The first words of lines.
use Rattle.std.specs.Prelude.{ℕ, if◌then◌else◌, List, Option, Some, None, codes, bytes_eq}
use Rattle.cbt_script.specs.declared.keywords.Keyword.{Keyword}
use Rattle.cbt_script.specs.declared.keywords.Keyword.TheVariants as k
use Rattle.cbt_script.specs.declared.keywords.Operation.TheVariants.{Get, Insert, Replace, Remove, Need}
use Rattle.cbt_script.specs.declared.keywords.Setting.TheVariants.{Atrs, Expiry, Tries, Lapse, Clock}

-- the settings
abbrev pub setting_of : List ℕ → Option Keyword
setting_of word =
    if bytes_eq word (codes "atrs") then Some (k.Setting Atrs)
    else (if bytes_eq word (codes "expiry") then Some (k.Setting Expiry)
    else (if bytes_eq word (codes "tries") then Some (k.Setting Tries)
    else (if bytes_eq word (codes "lapse") then Some (k.Setting Lapse)
    else (if bytes_eq word (codes "clock") then Some (k.Setting Clock)
    else None))))

-- documents and actors
abbrev pub setup_of : List ℕ → Option Keyword
setup_of word =
    if bytes_eq word (codes "doc") then Some (k.Doc)
    else (if bytes_eq word (codes "attrs") then Some (k.Attrs)
    else (if bytes_eq word (codes "client") then Some (k.Client)
    else (if bytes_eq word (codes "begin") then Some (k.Begin)
    else (if bytes_eq word (codes "cleaner") then Some (k.Cleaner)
    else None))))

-- what stands inside a transaction
abbrev pub operation_of : List ℕ → Option Keyword
operation_of word =
    if bytes_eq word (codes "get") then Some (k.Operation Get)
    else (if bytes_eq word (codes "insert") then Some (k.Operation Insert)
    else (if bytes_eq word (codes "replace") then Some (k.Operation Replace)
    else (if bytes_eq word (codes "remove") then Some (k.Operation Remove)
    else (if bytes_eq word (codes "need") then Some (k.Operation Need)
    else (if bytes_eq word (codes "commit") then Some (k.Commit)
    else (if bytes_eq word (codes "rollback") then Some (k.Rollback)
    else None))))))

-- how the run goes
abbrev pub course_of : List ℕ → Option Keyword
course_of word =
    if bytes_eq word (codes "stop") then Some (k.Stop)
    else (if bytes_eq word (codes "lost") then Some (k.Lost)
    else (if bytes_eq word (codes "late") then Some (k.Late)
    else (if bytes_eq word (codes "order") then Some (k.Order)
    else (if bytes_eq word (codes "sweep") then Some (k.Sweep)
    else None))))

-- the first of two, where it is there
abbrev pub or_else : Option Keyword → Option Keyword → Option Keyword
or_else (Some keyword) other = Some keyword
or_else None other = other

-- what the first word says that the line is
unfoldable pub keyword_of : List ℕ → Option Keyword
keyword_of word = or_else (setting_of word) (or_else (setup_of word) (or_else (operation_of word) (course_of word)))
