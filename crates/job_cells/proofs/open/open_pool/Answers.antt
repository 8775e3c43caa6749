use Rattle.std.proofs.Common.{◌≡◌, length, sym, ap, subst, ◌∙◌, arith}
use Rattle.std.specs.List.{All}
use Rattle.std.proofs.lemmas.List.{length-map}
use Rattle.local_pool.specs.Shares.{IsWant, needs, share_of}
use Rattle.job_cells.specs.Grants.{wants_of}
use Rattle.job_cells.proofs.WantLaws.{all_fit, needs_are, many_wants}
use Rattle.job_cells.proofs.open.open_pool.Goals as goal

pub limits_of-requires-clause-wants : goal.limits_of-requires-clause-wants
limits_of-requires-clause-wants c = subst (λ ws. All IsWant ws) (sym (c.as_slice.ensures ∙ c.in_ok-wants.ensures)) (all_fit c.args.job.now)

pub limits_of-requires-clause-enough : goal.limits_of-requires-clause-enough
limits_of-requires-clause-enough c =
    let same = ap needs (c.as_slice.ensures ∙ c.in_ok-wants.ensures) in let all = needs_are c.args.job.now c.requires.is_job in let enough = c.requires.enough in
    omega (arith, same, all, enough)

pub new_limited-requires-clause-passes : goal.new_limited-requires-clause-passes
new_limited-requires-clause-passes c =
    let wants = c.as_slice.result.now in
    let many : length c.as_slice-2.result.now ≡ length (wants_of c.args.job.now) =
    ap length (c.as_slice-2.ensures ∙ c.in_ok-limits.ensures.limits) ∙ length-map wants (share_of wants c.args.total) ∙ ap length (c.as_slice.ensures ∙ c.in_ok-wants.ensures) in
    let all = many_wants c.args.job.now c.requires.is_job in
    (omega (arith, many, all), omega (arith, many, all))
