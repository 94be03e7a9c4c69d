-- What stands at a key after a change.
use Rattle.std.proofs.Common.{◌≡◌, ◌≢◌, true, false, cond, ⊎_elim, List, Some, None, ap, ◌∙◌}
use Rattle.std.specs.declared.cmp.Ordering.{Ordering}
use Rattle.std.specs.Ordering.{is_eq}
use Rattle.cbt_base.specs.Keyed.{at_key, with_pair, without_key, Rises}
use Rattle.cbt_base.proofs.Maps.{at_key-with_pair, at_key-without_key}
use Rattle.cbt_model.proofs.Orders.{IsKeyOrder, key_itself, key_cases}

module _ {K V : Type 0} {cmp : K → K → Ordering} (order : IsKeyOrder cmp) (m : List (K × V)) where
  pub set_there : (k : K) (v : V) → at_key cmp (with_pair cmp m k v) k ≡ Some v
  set_there k v = at_key-with_pair cmp order.total m k v k ∙ ap (λ b. cond b (Some v) (at_key cmp m k)) (key_itself order k)

  differs : (k q : K) → q ≢ k → is_eq (cmp q k) ≡ false
  differs k q apart =
      ⊎_elim (λ (l : (is_eq (cmp q k) ≡ true) × (q ≡ k)). absurd (apart l.1)) (λ (r : (is_eq (cmp q k) ≡ false) × (q ≢ k)). r.0) (key_cases order q k)

  pub set_elsewhere : (k q : K) (v : V) → q ≢ k → at_key cmp (with_pair cmp m k v) q ≡ at_key cmp m q
  set_elsewhere k q v apart = at_key-with_pair cmp order.total m k v q ∙ ap (λ b. cond b (Some v) (at_key cmp m q)) (differs k q apart)

  pub gone_there : (k : K) → Rises cmp m → at_key cmp (without_key cmp m k) k ≡ None
  gone_there k rises = at_key-without_key cmp order.total m k k rises ∙ ap (λ b. cond b None (at_key cmp m k)) (key_itself order k)

  pub gone_elsewhere : (k q : K) → Rises cmp m → q ≢ k → at_key cmp (without_key cmp m k) q ≡ at_key cmp m q
  gone_elsewhere k q rises apart = at_key-without_key cmp order.total m k q rises ∙ ap (λ b. cond b None (at_key cmp m q)) (differs k q apart)
