use Rattle.std.proofs.Common.{◌≡◌, ℕ, List, [], Some, refl, sym, subst}
use Rattle.std.proofs.lemmas.Result.{IfOk-weaker, IfErr-weaker}
use Rattle.std.specs.Prelude.{⊤}
use Rattle.flow_defs.specs.Lines.{lines}
use Rattle.flow_defs.specs.Tables.{Values}
use Rattle.plain_machine.specs.Worth.{tally}
use Rattle.outside.specs.MemoryLinks.{NoneFails, OutState, InState, no_links}
use Rattle.job_ends.specs.Ended.{LinksTell}
use Rattle.job_run.specs.Wires.{IsLinkGround, IsPeerGround}
use Rattle.outside.specs.Faults.{HasRisen}
use Rattle.job_outcome.specs.Outcomes.{AreTold, AreWithin, IsRunCause}
use Rattle.job_outcome.specs.Storing.{EndsIn, IsTooLarge}
use Rattle.job_command.proofs.ExchangeLemmas.{no_link}
use Rattle.job_command.proofs.exchange.table_of_inputs.Goals as goal

memory_tells : LinksTell (λ (s : OutState). Some s.sent) (λ (s : InState). Some s.got)
memory_tells = record { out = λ s. (s.sent, refl); input = λ s. (s.got, refl) }

pub returns-clause-told : goal.returns-clause-told
returns-clause-told g c = IfOk-weaker c.run_job.result
    (λ (table : Values). LinksTell (λ (s : OutState). Some s.sent) (λ (s : InState). Some s.got) → (bytes : ℕ → List ℕ) → AreTold g.S.Source.left c.args.inputs.now.items bytes → AreWithin c.args.job.now bytes × (table ≡ tally c.args.job.now (λ a. lines (bytes a))))
    (λ (table : Values). (bytes : ℕ → List ℕ) → AreTold g.S.Source.left c.args.inputs.now.items bytes → AreWithin c.args.job.now bytes × (table ≡ tally c.args.job.now (λ a. lines (bytes a))))
    (λ table given. given memory_tells) c.run_job.ensures.tally

pub returns-clause-chain : goal.returns-clause-chain
returns-clause-chain g c = c.run_job.ensures.chain memory_tells

pub returns-clause-last : goal.returns-clause-last
returns-clause-last g c = IfOk-weaker c.run_job.result
    (λ (table : Values). LinksTell (λ (s : OutState). Some s.sent) (λ (s : InState). Some s.got) → (bytes : ℕ → List ℕ) → AreTold g.S.Source.left c.args.inputs.now.items bytes →
    EndsIn c.args.job.now (λ a. lines (bytes a)) c.args.options.every (g.K.Keeper.images c.args.keeper.now) (g.K.Keeper.images c.run_job.new.keeper) table)
    (λ (table : Values). (bytes : ℕ → List ℕ) → AreTold g.S.Source.left c.args.inputs.now.items bytes →
    EndsIn c.args.job.now (λ a. lines (bytes a)) c.args.options.every (g.K.Keeper.images c.args.keeper.now) (g.K.Keeper.images c.run_job.new.keeper) table)
    (λ table given. given memory_tells) c.run_job.ensures.last

-- No call of these links is to fail.
none_fails : (pairs reads writes : List ℕ) → pairs ≡ [] → reads ≡ [] → writes ≡ [] → NoneFails (no_links pairs reads writes)
none_fails pairs reads writes no_pairs no_reads no_writes = record { pairs = no_pairs; reads = no_reads; writes = no_writes }

pub returns-clause-cause : goal.returns-clause-cause
returns-clause-cause g c =
    let net = c.new-net.result in
    let peer = (IsPeerGround (λ (s : OutState). Some s.sent) (λ (s : InState). Some s.got) (λ (s : InState). Some s.ended) c.args.job.now (Some net.wires) (Some c.run_job.new.net.wires)) in
    let keeper = HasRisen (g.K.Keeper.faults c.args.keeper.now) (g.K.Keeper.faults c.run_job.new.keeper) in
    let large = ((bytes : ℕ → List ℕ) → AreTold g.S.Source.left c.args.inputs.now.items bytes → IsTooLarge c.args.job.now (λ a. lines (bytes a)) c.args.options.every (g.K.Keeper.images c.args.keeper.now) (g.K.Keeper.images c.run_job.new.keeper)) in
    let big = (LinksTell (λ (s : OutState). Some s.sent) (λ (s : InState). Some s.got) → large) in
    let never : NoneFails net = subst NoneFails (sym c.new-net.ensures) (none_fails c.new.result.items c.new-2.result.items c.new-3.result.items c.new.ensures c.new-2.ensures c.new-3.ensures) in
    IfErr-weaker c.run_job.result
    (IsRunCause g.S.Source.left g.S.Source.faults c.args.inputs.now.items c.run_job.new.inputs.items (IsLinkGround (NoneFails net) net.faults c.run_job.new.net.faults) peer keeper big)
    (IsRunCause g.S.Source.left g.S.Source.faults c.args.inputs.now.items c.run_job.new.inputs.items ⊥ (λ _. ⊤) keeper large)
    (λ cause is. no_link g.S.Source.left g.S.Source.faults c.args.inputs.now.items c.run_job.new.inputs.items (NoneFails net) net.faults c.run_job.new.net.faults peer keeper big large cause (λ is_large. is_large memory_tells) never is) c.run_job.ensures.cause
