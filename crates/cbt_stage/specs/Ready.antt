-- What its client's own list has to show before a put begins.
use Rattle.std.specs.Prelude.{◌≡◌, ◌⊎◌, true, false, List, [], ◌∷◌, Some}
use Rattle.cbt_model.specs.declared.events.Made.{Made}
use Rattle.cbt_book.specs.Numbers.{Identity, client_of}
use Rattle.cbt_book.specs.OwnLists.{Once}
use Rattle.cbt_book.specs.ReadAt.{IsReadAt}
use Rattle.cbt_book.specs.Shown.{adds, decides, AddsEntry}
use Rattle.cbt_stage.specs.declared.tasks.Task.{Task}

-- these calls are some of a list, in its order
abbrev pub IsPart : List Made → List Made → Type 0
IsPart part [] = part ≡ []
IsPart part (m ∷ l) = IsPart part l ⊎ ((rest : List Made) × (part ≡ m ∷ rest) × IsPart rest l)

-- the attempt is the client's own; its entry was not sent, or stands in its record, as the task says; it was not decided; and some
-- calls read the document as the task says
pub record IsReady (who : Identity) (o : Task) (l0 : List Made) : Type 0 where
  pub own : client_of o.attempt ≡ who.number
  pub unsent : o.sent ≡ false → ¬ Once (λ m _. adds m.step ≡ Some o.attempt) l0
  pub sent : o.sent ≡ true → Once (λ m _. AddsEntry o.atr o.attempt m) l0
  pub undecided : ¬ Once (λ m _. decides m.step ≡ Some o.attempt) l0
  pub read : (part : List Made) × IsPart part l0 × IsReadAt o.doc o.seen part
