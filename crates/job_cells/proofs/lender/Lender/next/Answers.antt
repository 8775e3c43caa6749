use Rattle.std.proofs.Common.{◌≡◌, ◌+◌, get_or, sym, refl, ap, subst, ◌∙◌}
use Rattle.std.specs.Prelude.{Some}
use Rattle.std.proofs.lemmas.Option.{slice_get-get_or}
use Rattle.segment_pool.specs.Pools.{total_of}
use Rattle.local_pool.specs.declared.shares.Want.{Want}
use Rattle.local_pool.specs.Shares.{share_of}
use Rattle.job_cells.specs.declared.lender.Lender.{Lender}
use Rattle.job_cells.specs.Lending.{IsGrant}
use Rattle.job_cells.proofs.LendLaws.{may_rest, grant, shared}
use Rattle.job_cells.proofs.lender.Lender.next.Goals as goal

pub returns-clause-may : goal.returns-clause-may
returns-clause-may c =
    let before = c.args.self.now in
    let after : Lender = record { passes = c.take_last-pass.new.self; wants = before.wants; limits = before.limits; given = before.given + 1 } in
    (may_rest c.args.pool.now before after c.take_last-pass.result c.requires.may c.take_last-pass.ensures.items refl refl refl, record { wants = refl; given = refl })

pub returns-clause-grant : goal.returns-clause-grant
returns-clause-grant c =
    let before = c.args.self.now in
    let after : Lender = record { passes = c.take_last-pass.new.self; wants = before.wants; limits = before.limits; given = before.given + 1 } in
    let d : Want = record { need = 0; most = 0 } in
    subst (λ ws. IsGrant c.args.pool.now c.take_last-pass.result (get_or ws before.given d) (get_or c.as_slice-2.result.now before.given 0)) (sym c.as_slice.ensures)
    (subst (λ ls. IsGrant c.args.pool.now c.take_last-pass.result (get_or before.wants.items before.given d) (get_or ls before.given 0)) (sym c.as_slice-2.ensures)
    (grant c.args.pool.now before after c.take_last-pass.result c.requires.may c.take_last-pass.ensures.items refl refl refl d))

pub returns-clause-share : goal.returns-clause-share
returns-clause-share c =
    let before = c.args.self.now in
    let after : Lender = record { passes = c.take_last-pass.new.self; wants = before.wants; limits = before.limits; given = before.given + 1 } in
    let d : Want = record { need = 0; most = 0 } in
    let total = total_of c.args.pool.now in
    subst (λ ws. get_or c.as_slice-2.result.now before.given 0 ≡ share_of before.wants.items total (get_or ws before.given d)) (sym c.as_slice.ensures)
    (subst (λ ls. get_or ls before.given 0 ≡ share_of before.wants.items total (get_or before.wants.items before.given d)) (sym c.as_slice-2.ensures)
    (shared c.args.pool.now before after c.take_last-pass.result c.requires.may c.take_last-pass.ensures.items refl refl refl d))

pub returns-clause-want : goal.returns-clause-want
returns-clause-want c =
    let before = c.args.self.now in let d : Want = record { need = 0; most = 0 } in
    slice_get-get_or before.wants.items before.given d c.requires.left ∙ ap (λ ws. Some (get_or ws before.given d)) (sym c.as_slice.ensures)
