-- How grants are lent one after another.
use Rattle.std.proofs.Common.{◌≡◌, ℕ, suc, ◌+◌, ◌-◌, ◌<◌, List, [], ◌∷◌, ◌++◌, length, get_or, Some, sym, ap, subst, ◌∙◌, arith}
use Rattle.std.specs.Prelude.{slice_get, map, reverse}
use Rattle.std.specs.List.{All}
use Rattle.std.proofs.lemmas.List.{length_push, get_or-map, get_or-reverse, length-reverse, length-map}
use Rattle.std.proofs.lemmas.Option.{slice_get-get_or, slice_get_within, get_or_from_slice_get}
use Rattle.segment_pool.specs.declared.pool.Pool.{Pool}
use Rattle.segment_pool.specs.declared.pass.PoolPass.{PoolPass}
use Rattle.segment_pool.specs.Passes.{number, out}
use Rattle.segment_pool.specs.Pools.{IsPassOf, limits_of, total_of}
use Rattle.local_pool.specs.declared.shares.Want.{Want}
use Rattle.local_pool.specs.Shares.{IsWant, share_of}
use Rattle.local_pool.proofs.Dealing.{share_of-between}
use Rattle.flow_defs.specs.declared.job.Job.{Job}
use Rattle.flow_defs.specs.Jobs.{IsJob}
use Rattle.job_cells.specs.declared.lender.Lender.{Lender}
use Rattle.job_cells.specs.declared.open.Grants.{Grants}
use Rattle.job_cells.specs.Grants.{AreGrantsOf, wants_of}
use Rattle.job_cells.specs.Lending.{IsGrant, MayLend}
use Rattle.job_cells.proofs.Lists.{in_front, at_last, elem_of}
use Rattle.job_cells.proofs.WantLaws.{all_fit, many_wants}

-- The last pass was taken from those that are left.
module _ (pool : Pool) (before after : Lender) (last : PoolPass) (may : MayLend pool before) (is : before.passes.items ≡ after.passes.items ++ last ∷ [])
    (wants : after.wants.items ≡ before.wants.items) (limits : after.limits.items ≡ before.limits.items) (given : after.given ≡ before.given + 1) where
  longer : length before.passes.items ≡ length after.passes.items + 1
  longer = ap length is ∙ length_push after.passes.items last

  pub may_rest : MayLend pool after
  may_rest = let many = may.many in let more = longer in record {
    limited = may.limited;
    wants = subst (λ (ws : List Want). All IsWant ws) (sym wants) may.wants;
    limits = limits ∙ may.limits ∙ ap (λ ws. map (share_of ws (total_of pool)) ws) (sym wants);
    granted = may.granted ∙ sym limits;
    many = (let w = ap length wants in omega (arith, many, more, w, given));
    each = λ k pass at.
        let found = may.each k pass (ap (λ l. slice_get l k) is ∙ in_front after.passes.items (last ∷ []) k pass at) in
        (found.0, found.1, found.2 ∙ ap length (sym wants));
  }

  last_is : IsPassOf pool last × (out last ≡ 0) × (number last + suc (length after.passes.items) ≡ length before.wants.items)
  last_is = may.each (length after.passes.items) last (ap (λ l. slice_get l (length after.passes.items)) is ∙ at_last after.passes.items last (length after.passes.items) (λ i. length after.passes.items))

  pub shared : (d : Want) → get_or before.limits.items before.given 0 ≡ share_of before.wants.items (total_of pool) (get_or before.wants.items before.given d)
  shared d =
      let many = may.many in let more = longer in let ws = before.wants.items in
      ap (λ l. get_or l before.given 0) may.limits ∙ get_or-map (share_of ws (total_of pool)) ws before.given d 0 (omega (arith, many, more))

  pub grant : (d : Want) → IsGrant pool last (get_or before.wants.items before.given d) (get_or before.limits.items before.given 0)
  grant d =
      let many = may.many in let more = longer in let it = last_is in
      let place : number last ≡ before.given = (let n = it.2 in omega (arith, many, more, n)) in
      let low : before.given < length before.wants.items = omega (arith, many, more) in
      let ws = before.wants.items in let want = get_or ws before.given d in
      let share = shared d in
      let between = share_of-between ws (total_of pool) want (may.wants before.given d low) in
      let granted : get_or (limits_of pool) (number last) 0 ≡ get_or before.limits.items before.given 0 = ap (λ l. get_or l (number last) 0) may.granted ∙ ap (λ k. get_or before.limits.items k 0) place in
      record {
        of_pool = it.0;
        none_out = it.1;
        granted = omega (arith, granted);
        enough = (let b = between.0 in omega (arith, b, share));
        most = (let b = between.1 in omega (arith, b, share));
      }

-- The grants of a job may be lent, all of them.
pub may_at_first : (job : Job) (pool : Pool) (grants : Grants) (lender : Lender) → IsJob job → AreGrantsOf job pool grants → lender.passes.items ≡ reverse grants.passes.items →
    lender.wants.items ≡ grants.wants.items → lender.limits.items ≡ grants.limits.items → lender.given ≡ 0 → MayLend pool lender
may_at_first job pool grants lender is are passes wants limits given =
    let ps = grants.passes.items in
    let whole : lender.wants.items ≡ wants_of job = wants ∙ are.wants in
    let many : length ps ≡ length (wants_of job) = are.many in
    let turned : length lender.passes.items ≡ length ps = ap length passes ∙ length-reverse ps in
    let long = ap length whole in
    let shares = ap length (are.granted ∙ are.limits) ∙ length-map (wants_of job) (share_of (wants_of job) (total_of pool)) in
    let some = (many_wants job is).0 in
    record {
      limited = omega (arith, shares, some);
      wants = subst (λ (ws : List Want). All IsWant ws) (sym whole) (all_fit job);
      limits = limits ∙ are.limits ∙ ap (λ ws. map (share_of ws (total_of pool)) ws) (sym whole);
      granted = are.granted ∙ sym limits;
      many = omega (arith, given, turned, many, long);
      each = λ k pass at.
          let low = slice_get_within lender.passes.items k pass at in
          let k' : ℕ = length ps - 1 - k in
          let here : get_or ps k' pass ≡ pass = sym (get_or-reverse ps k pass (omega (arith, low, turned))) ∙ ap (λ l. get_or l k pass) (sym passes) ∙ get_or_from_slice_get lender.passes.items k pass pass at in
          let there : slice_get ps k' ≡ Some pass = slice_get-get_or ps k' pass (omega (arith, low, turned)) ∙ ap Some here in
          let found = are.passes.1 k' pass (elem_of ps k' pass there) in
          let out_none : out pass ≡ 0 = subst (λ (p : PoolPass). out p ≡ 0) here (are.none_out k' pass (omega (arith, low, turned))) in
          (found.0, out_none, (let n = found.1 in omega (arith, n, low, turned, many, long)));
    }
