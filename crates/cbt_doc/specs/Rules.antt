-- What the content of a document keeps, and how a function's answer stands to the right one.
use Rattle.std.specs.Prelude.{◌≡◌, Result, Ok, Err}
use Rattle.std.specs.Option.{ForSome}
use Rattle.cbt_json.specs.Rules.{IsJson}
use Rattle.cbt_doc.specs.declared.contents.Content.{Content}
use Rattle.cbt_doc.specs.declared.docs.DocFault.{DocFault}
use Rattle.cbt_doc.specs.declared.docs.DocFault.TheVariants.{NoMemory}

-- the attributes and the body are JSON values
abbrev pub HasRules : Content → Type 0
HasRules c = IsJson c.attrs × ForSome c.body IsJson

-- want of memory is free
abbrev pub Makes : {A : Type 0} → Result A DocFault → Result A DocFault → Type 0
Makes (Ok x) right = right ≡ Ok x
Makes (Err NoMemory) right = Unit {0}
Makes (Err fault) right = right ≡ Err fault
