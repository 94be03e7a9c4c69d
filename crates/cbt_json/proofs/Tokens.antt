-- The tokens of a list or an object are its bracket and those of what it holds.
use Rattle.std.proofs.Common.{◌≡◌, ℕ, List, [], ◌∷◌, ◌++◌, ap, ◌∙◌, append_assoc}
use Rattle.json.specs.Token.{Token, begin_array, begin_object}
use Rattle.json.specs.Tree.{json_tokens}
use Rattle.json.specs.Print.{print}
use Rattle.serde_json.specs.Written.{outline}
use Rattle.cbt_json.specs.declared.tree.Tree.{Tree}
use Rattle.cbt_json.specs.declared.tree.Tree.TheVariants as t
use Rattle.serde_json.proofs.Texts.{print-outline}
use Rattle.cbt_json.specs.Trees.{data_of, text_of}
use Rattle.cbt_json.specs.Tokens.{tree_tokens, list_tokens, object_tokens}
use Rattle.cbt_json.proofs.Views.{data_of-List, data_of-Object}

pub list_written : (old mid new : List Token) (tree : Tree) (ts : List Tree) → tree ≡ t.List ts → mid ≡ old ++ begin_array ∷ [] → new ≡ mid ++ list_tokens ts → new ≡ old ++ tree_tokens tree
list_written old mid new tree ts is opened closed =
    let e : tree_tokens tree ≡ begin_array ∷ list_tokens ts = ap tree_tokens is ∙ ap (λ d. json_tokens (outline d)) (data_of-List ts) in
    closed ∙ rw (opened, e, append_assoc)

pub object_written : (old mid new : List Token) (tree : Tree) (ms : List (List ℕ × Tree)) → tree ≡ t.Object ms → mid ≡ old ++ begin_object ∷ [] → new ≡ mid ++ object_tokens ms → new ≡ old ++ tree_tokens tree
object_written old mid new tree ms is opened closed =
    let e : tree_tokens tree ≡ begin_object ∷ object_tokens ms = ap tree_tokens is ∙ ap (λ d. json_tokens (outline d)) (data_of-Object ms) in
    closed ∙ rw (opened, e, append_assoc)

-- what a writer's bytes are, after the tokens of a tree
pub printed : (text bytes start before : List ℕ) (old new : List Token) (tree : Tree) → text ≡ bytes → bytes ≡ before ++ print new → before ≡ start → start ≡ [] → new ≡ old ++ tree_tokens tree → old ≡ [] → text ≡ text_of tree
printed text bytes start before old new tree is whole first none written fresh =
    is ∙ whole ∙ ap (λ b. b ++ print new) (first ∙ none) ∙ ap print (written ∙ ap (λ ts. ts ++ tree_tokens tree) fresh) ∙ print-outline (data_of tree)
