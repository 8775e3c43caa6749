-- Items by their channels: what is found of one channel, after something was done to that of another or of the same.
use Rattle.std.proofs.Common.{◌≡◌, ℕ, ◌<◌, Bool, true, false, cond, zero, suc, List, [], ◌∷◌, length, map, get_or, set, Option, Some, None, refl, sym, ap, ◌∙◌, arith, inl, inr}
use Rattle.std.specs.Prelude.{find, position, slice_get, ◌≢◌}
use Rattle.std.specs.List.{AllPairs}
use Rattle.std.specs.Option.{option_map}
use Rattle.std.proofs.lemmas.Bool.{cases_eq, cases_order, cond-true, cond-false}
use Rattle.std.proofs.lemmas.List.{get_or-map, get_or-set_same, get_or-set_other, length-map, length-set, ext_get_or, get_or_default}
use Rattle.std.proofs.lemmas.Option.{none-some, slice_get-map}
use Rattle.flow_defs.specs.declared.task.ChannelId.{ChannelId}
use Rattle.credit_reader.specs.Senders.{is_same}
use Rattle.credit_reader.proofs.Channels.{is_same_of, same_channel, is_other}

-- what is found is there
pub find_there : {X : Type 0} (p : X → Bool) (xs : List X) (x : X) → find p xs ≡ Some x → (k : ℕ) × (slice_get xs k ≡ Some x)
find_there p [] x is = absurd (none-some _ is)
find_there p (y ∷ xs) x is =
    elim (p y) as (λ b. cond b (Some y) (find p xs) ≡ Some x → (k : ℕ) × (slice_get (y ∷ xs) k ≡ Some x)) [
      | true ↦ λ here. (0, here)
      | false ↦ λ here. let rest = find_there p xs x here in (suc rest.0, rest.1)
    ] is

module _ {X : Type 0} (key : X → ChannelId) where
  -- what is found of a channel
  abbrev pub found : ChannelId → List X → Option X
  found c xs = find (λ x. is_same (key x) c) xs

  -- an item, after something is done to that of a channel
  abbrev pub touched : ChannelId → (X → X) → X → X
  touched c f x = cond (is_same (key x) c) (f x) x

  module _ (c : ChannelId) (f : X → X) (keeps : (x : X) → key (f x) ≡ key x) where
    touched_key : (x : X) → key (touched c f x) ≡ key x
    touched_key x = elim (is_same (key x) c) as (λ b. key (cond b (f x) x) ≡ key x) [ true ↦ keeps x | false ↦ refl ]

    pub found_after : (d : ChannelId) (xs : List X) → found d (map (touched c f) xs) ≡ option_map (λ x. cond (is_same d c) (f x) x) (found d xs)
    found_after d [] = refl
    found_after d (x ∷ xs) =
        ap (λ e. cond (is_same e d) (Some (touched c f x)) (found d (map (touched c f) xs))) (touched_key x)
        ∙ (elim (is_same (key x) d) as (λ b. is_same (key x) d ≡ b → cond b (Some (touched c f x)) (found d (map (touched c f) xs)) ≡ option_map (λ y. cond (is_same d c) (f y) y) (cond b (Some x) (found d xs))) [
          | true ↦ λ is. ap (λ e. Some (cond (is_same e c) (f x) x)) (same_channel _ _ is)
          | false ↦ λ is. found_after d xs
        ] refl)

  -- what is found has the channel that was looked for
  pub found_key : (c : ChannelId) (xs : List X) (x : X) → found c xs ≡ Some x → key x ≡ c
  found_key c [] x is = absurd (cc)
  found_key c (y ∷ xs) x is =
      elim (is_same (key y) c) as (λ b. is_same (key y) c ≡ b → cond b (Some y) (found c xs) ≡ Some x → key x ≡ c) [
        | true ↦ λ same here. let y_is : y ≡ x = cc in ap key (sym y_is) ∙ same_channel _ _ same
        | false ↦ λ same here. found_key c xs x here
      ] refl is

  pub found_there : (c : ChannelId) (xs : List X) (x : X) → found c xs ≡ Some x → (k : ℕ) × (slice_get xs k ≡ Some x)
  found_there c xs x is = find_there (λ y. is_same (key y) c) xs x is

  -- an item of a channel that is one of the items' is found
  pub found_of_key : (c : ChannelId) (xs : List X) (k : ℕ) → slice_get (map key xs) k ≡ Some c → (x : X) × (found c xs ≡ Some x)
  found_of_key c [] k is = absurd (cc)
  found_of_key c (x ∷ xs) zero is = let same : key x ≡ c = cc in (x, cond-true _ _ _ (is_same_of (key x) c same))
  found_of_key c (x ∷ xs) (suc k) is =
      elim (is_same (key x) c) as (λ b. (y : X) × (cond b (Some x) (found c xs) ≡ Some y)) [
        | true ↦ (x, refl)
        | false ↦ found_of_key c xs k is
      ]

  -- and the other way round
  pub key_of_found : (c : ChannelId) (xs : List X) (x : X) → found c xs ≡ Some x → (k : ℕ) × (slice_get (map key xs) k ≡ Some c)
  key_of_found c xs x is =
      let there = found_there c xs x is in
      (there.0, slice_get-map key xs there.0 ∙ ap (option_map key) there.1 ∙ ap Some (found_key c xs x is))

  -- Where no two are of one channel, each is what is found of its channel.
  at_key : (xs : List X) (k : ℕ) (x : X) → slice_get xs k ≡ Some x → (k < length (map key xs)) × ((d : ChannelId) → get_or (map key xs) k d ≡ key x)
  at_key [] k x is = absurd (cc)
  at_key (y ∷ ys) zero x is = let same : y ≡ x = cc in (omega arith, λ d. ap key same)
  at_key (y ∷ ys) (suc k) x is = let rest = at_key ys k x is in (omega (arith, rest.0), rest.1)

  pub found_here : (xs : List X) → AllPairs (λ c d. c ≢ d) (map key xs) → (k : ℕ) (x : X) → slice_get xs k ≡ Some x → found (key x) xs ≡ Some x
  found_here [] distinct k x is = absurd (cc)
  found_here (y ∷ ys) distinct zero x is = let same : y ≡ x = cc in cond-true _ _ _ (is_same_of (key y) (key x) (ap key same)) ∙ ap Some same
  found_here (y ∷ ys) distinct (suc k) x is =
      let at = at_key ys k x is in
      cond-false _ _ _ (is_other (key y) (key x) (λ e. distinct 0 (suc k) (key y) (omega arith) (omega (arith, at.0)) (e ∙ sym (at.1 (key y)))))
      ∙ found_here ys (λ i j d less within e. distinct (suc i) (suc j) d (omega (arith, less)) (omega (arith, within)) e) k x is
