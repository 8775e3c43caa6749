-- What is on the way to and from a channel, with one frame less in front or one more behind.
use Rattle.std.proofs.Common.{◌≡◌, ℕ, suc, ◌+◌, cond, List, [], ◌∷◌, ◌++◌, refl, sym, ap, arith, eq-eqb}
use Rattle.std.proofs.lemmas.Bool.{ne_eqb}
use Rattle.flow_defs.specs.declared.parcel.Parcel.{Parcel}
use Rattle.exchange_world.specs.Worlds.{DataFrame, Response, ControlFrame, AddCredit, Resumption}
use Rattle.exchange_world.specs.Sound.{responses, credit_coming, resumptions_coming}
use Rattle.exchange_world.proofs.WorldLemmas.{credit_coming-append, resumptions_coming-append}

pub response_here : (c number backlog : ℕ) (p : Parcel) (frames : List DataFrame) → responses c (Response c number p backlog ∷ frames) ≡ (number, p) ∷ responses c frames
response_here c number backlog p frames = ap (λ b. cond b ((number, p) ∷ responses c frames) (responses c frames)) (eq-eqb c c refl)

pub response_there : (d c number backlog : ℕ) (p : Parcel) (frames : List DataFrame) → (d ≡ c → ⊥) → responses d (Response c number p backlog ∷ frames) ≡ responses d frames
response_there d c number backlog p frames other = ap (λ b. cond b ((number, p) ∷ responses d frames) (responses d frames)) (ne_eqb c d (λ e. other (sym e)))

-- one more control frame
module _ (xs : List ControlFrame) (c : ℕ) where
  pub credit_here : (n : ℕ) → credit_coming c (xs ++ AddCredit c n ∷ []) ≡ credit_coming c xs + n
  credit_here n =
      let one : credit_coming c (AddCredit c n ∷ []) ≡ n + 0 = ap (λ b. cond b (n + 0) 0) (eq-eqb c c refl) in
      let all = credit_coming-append c xs (AddCredit c n ∷ []) in
      omega (arith, one, all)

  pub credit_there : (d n : ℕ) → (d ≡ c → ⊥) → credit_coming d (xs ++ AddCredit c n ∷ []) ≡ credit_coming d xs
  credit_there d n other =
      let one : credit_coming d (AddCredit c n ∷ []) ≡ 0 = ap (λ b. cond b (n + 0) 0) (ne_eqb c d (λ e. other (sym e))) in
      let all = credit_coming-append d xs (AddCredit c n ∷ []) in
      omega (arith, one, all)

  pub no_resumption : (d n : ℕ) → resumptions_coming d (xs ++ AddCredit c n ∷ []) ≡ resumptions_coming d xs
  no_resumption d n = let all = resumptions_coming-append d xs (AddCredit c n ∷ []) in omega (arith, all)

  pub resumption_here : resumptions_coming c (xs ++ Resumption c ∷ []) ≡ resumptions_coming c xs + 1
  resumption_here =
      let one : resumptions_coming c (Resumption c ∷ []) ≡ suc 0 = ap (λ b. cond b (suc 0) 0) (eq-eqb c c refl) in
      let all = resumptions_coming-append c xs (Resumption c ∷ []) in
      omega (arith, one, all)

  pub resumption_there : (d : ℕ) → (d ≡ c → ⊥) → resumptions_coming d (xs ++ Resumption c ∷ []) ≡ resumptions_coming d xs
  resumption_there d other =
      let one : resumptions_coming d (Resumption c ∷ []) ≡ 0 = ap (λ b. cond b (suc 0) 0) (ne_eqb c d (λ e. other (sym e))) in
      let all = resumptions_coming-append d xs (Resumption c ∷ []) in
      omega (arith, one, all)

  pub no_credit : (d : ℕ) → credit_coming d (xs ++ Resumption c ∷ []) ≡ credit_coming d xs
  no_credit d = let all = credit_coming-append d xs (Resumption c ∷ []) in omega (arith, all)
