use Rattle.std.proofs.Common.{◌≡◌, ℕ, List, Some, IfErr, inl, inr, refl, sym, ap, subst, ◌∙◌}
use Rattle.std.proofs.lemmas.Result.{IfOk-weaker, IfErr-weaker, err_from_is_err_and}
use Rattle.flow_defs.specs.Items.{Items}
use Rattle.stage_fns.specs.Kinds.{kinds}
use Rattle.flow_defs.specs.Lines.{lines}
use Rattle.flow_defs.specs.Tables.{table_text}
use Rattle.flow_defs.specs.declared.job.Job.{Job}
use Rattle.job_text.specs.JobText.{IsJobText}
use Rattle.job_text.specs.declared.words.RunOptions.{RunOptions}
use Rattle.job_text.specs.declared.words.Command.TheVariants as Command
use Rattle.job_text.specs.Words.{IsRun, IsCommand}
use Rattle.command_parts.specs.declared.fault.Fault.{Fault}
use Rattle.outside.specs.Faults.{HasRisen}
use Rattle.command_parts.specs.Causes.{status_of}
use Rattle.commands.specs.Run.{RunsTo, Prints, HasChain, EndsWith, IsFaultOf, TellsRun}
use Rattle.command_parts.specs.Sources.{TellsSources}
use Rattle.commands.specs.SelfRuns.{HasRunOver, IsSelfFault}
use Rattle.commands.specs.TextFaults.{IsWordFault}
use Rattle.commands.proofs.RunLemmas.{of_selfrun, of_words, one_run, no_run, no_last}
use Rattle.commands.proofs.SelfLemmas.{not_input, not_keeper, not_output}
use Rattle.job_command.proofs.StoringLemmas.{none_stored, kept_still}
use Rattle.commands.proofs.run.text_to_print.Goals as goal

pub returns-in-Run-clause-done : goal.returns-in-Run-clause-done
returns-in-Run-clause-done g c =
    let words = c.args.words.now.items in
    let is_run : IsRun words c.text.result.now c.in-Run.options = subst (λ (name : List ℕ). IsRun words name c.in-Run.options) (sym c.text.ensures) (subst (IsCommand words) c.in-Run.is c.in_ok-command.ensures.command) in
    IfOk-weaker c.tally_text.result
    (λ (text : Items ℕ). (ws : List (List ℕ)) → IsRun ws c.text.result.now c.in-Run.options → RunsTo ws (kinds c.args.functions.now) (g.F.Files.contents c.args.files.now) (g.K.Keeper.images c.args.keeper.now) (λ tally. text.items ≡ tally))
    (λ (text : Items ℕ). Prints words (kinds c.args.functions.now) (g.F.Files.contents c.args.files.now) (g.K.Keeper.images c.args.keeper.now) (λ all. text.items ≡ all))
    (λ text is. inl (is words is_run)) c.tally_text.ensures.done

pub returns-in-Run-clause-fault : goal.returns-in-Run-clause-fault
returns-in-Run-clause-fault g c =
    let words = c.args.words.now.items in
    let is_run : IsRun words c.text.result.now c.in-Run.options = subst (λ (name : List ℕ). IsRun words name c.in-Run.options) (sym c.text.ensures) (subst (IsCommand words) c.in-Run.is c.in_ok-command.ensures.command) in
    IfErr-weaker c.tally_text.result
    (λ (fault : Fault). (ws : List (List ℕ)) → IsRun ws c.text.result.now c.in-Run.options → IsFaultOf ws (kinds c.args.functions.now) (g.F.Files.contents c.args.files.now) (g.K.Keeper.images c.args.keeper.now) fault)
    (IsFaultOf words (kinds c.args.functions.now) (g.F.Files.contents c.args.files.now) (g.K.Keeper.images c.args.keeper.now))
    (λ fault is. is words is_run) c.tally_text.ensures.fault

pub returns-in_err-command-clause-fault : goal.returns-in_err-command-clause-fault
returns-in_err-command-clause-fault g c =
    let words = c.args.words.now.items in
    let functions = kinds c.args.functions.now in
    let contents = g.F.Files.contents c.args.files.now in
    let held = g.K.Keeper.images c.args.keeper.now in
    let passed = err_from_is_err_and c.from_residual.result c.from_residual.ensures.1 in
    let same : c.in_err-command.field-0.0 ≡ passed.0 = (let gives = passed.2 in cc) in
    subst (λ r. IfErr r (IsFaultOf words functions contents held)) (sym passed.1)
    (of_words words functions contents held passed.0 c.in_err-command.ensures.accepted (subst (IsWordFault words) same c.in_err-command.ensures.fault))

-- ---- what the keeper got

pub returns-in-Run-clause-chain : goal.returns-in-Run-clause-chain
returns-in-Run-clause-chain g c = λ options job bytes run tells.
    let words = c.args.words.now.items in
    let contents = g.F.Files.contents c.args.files.now in
    let is_run : IsRun words c.text.result.now c.in-Run.options = subst (λ (name : List ℕ). IsRun words name c.in-Run.options) (sym c.text.ensures) (subst (IsCommand words) c.in-Run.is c.in_ok-command.ensures.command) in
    let same = one_run c.words_are_clear.ensures.one words run.tells.job c.text.result.now options c.in-Run.options run.tells.is_run is_run in
    subst (λ (o : RunOptions). HasChain o job bytes (g.K.Keeper.images c.args.keeper.now) (g.K.Keeper.images c.tally_text.new.keeper)) (sym same.1)
    (c.tally_text.ensures.chain run.text job bytes (ap contents (sym same.0) ∙ run.tells.told) run.is_job tells)

pub returns-in-Run-clause-last : goal.returns-in-Run-clause-last
returns-in-Run-clause-last g c =
    let words = c.args.words.now.items in
    let functions = kinds c.args.functions.now in
    let contents = g.F.Files.contents c.args.files.now in
    let held = g.K.Keeper.images c.args.keeper.now in
    let after = g.K.Keeper.images c.tally_text.new.keeper in
    let is_run : IsRun words c.text.result.now c.in-Run.options = subst (λ (name : List ℕ). IsRun words name c.in-Run.options) (sym c.text.ensures) (subst (IsCommand words) c.in-Run.is c.in_ok-command.ensures.command) in
    IfOk-weaker c.tally_text.result
    (λ (printed : Items ℕ). (text : List ℕ) (job : Job) (bytes : ℕ → List ℕ) → contents c.text.result.now ≡ Some text → IsJobText functions text job → TellsSources job contents bytes →
    EndsWith c.in-Run.options job bytes held after (λ table. printed.items ≡ table_text table))
    (λ (printed : Items ℕ). (options : RunOptions) (job : Job) (bytes : ℕ → List ℕ) → TellsRun words functions contents options job → TellsSources job contents bytes →
    EndsWith options job bytes held after (λ table. printed.items ≡ table_text table))
    (λ printed ends options job bytes run tells.
    let same = one_run c.words_are_clear.ensures.one words run.tells.job c.text.result.now options c.in-Run.options run.tells.is_run is_run in
    subst (λ (o : RunOptions). EndsWith o job bytes held after (λ table. printed.items ≡ table_text table)) (sym same.1)
    (ends run.text job bytes (ap contents (sym same.0) ∙ run.tells.told) run.is_job tells))
    c.tally_text.ensures.last

pub returns-in-Run-clause-kept_else : goal.returns-in-Run-clause-kept_else
returns-in-Run-clause-kept_else g c = λ none.
    let words = c.args.words.now.items in
    let is_run : IsRun words c.text.result.now c.in-Run.options = subst (λ (name : List ℕ). IsRun words name c.in-Run.options) (sym c.text.ensures) (subst (IsCommand words) c.in-Run.is c.in_ok-command.ensures.command) in
    c.tally_text.ensures.kept_else words is_run none

pub returns-in_err-command-clause-chain : goal.returns-in_err-command-clause-chain
returns-in_err-command-clause-chain g c = λ options job bytes run tells. none_stored job (λ a. lines (bytes a)) options.every (g.K.Keeper.images c.args.keeper.now) (g.K.Keeper.images c.args.keeper.now) refl

pub returns-in_err-command-clause-kept : goal.returns-in_err-command-clause-kept
returns-in_err-command-clause-kept g c = kept_still (g.K.Keeper.images c.args.keeper.now) (g.K.Keeper.images c.args.keeper.now) refl

pub returns-in-Script-clause-chain : goal.returns-in-Script-clause-chain
returns-in-Script-clause-chain g c = λ options job bytes run tells. none_stored job (λ a. lines (bytes a)) options.every (g.K.Keeper.images c.args.keeper.now) (g.K.Keeper.images c.args.keeper.now) refl

pub returns-in-Script-clause-kept : goal.returns-in-Script-clause-kept
returns-in-Script-clause-kept g c = kept_still (g.K.Keeper.images c.args.keeper.now) (g.K.Keeper.images c.args.keeper.now) refl

pub returns-in-Script-clause-last : goal.returns-in-Script-clause-last
returns-in-Script-clause-last g c =
    no_last c.words_are_clear.ensures.one c.args.words.now.items (Command.Script c.in-Script.file) (subst (IsCommand c.args.words.now.items) c.in-Script.is c.in_ok-command.ensures.command) (λ job options same. cc)
    c.replies_of_file.result (kinds c.args.functions.now) (g.F.Files.contents c.args.files.now) (λ text options job bytes. EndsWith options job bytes (g.K.Keeper.images c.args.keeper.now) (g.K.Keeper.images c.args.keeper.now) (λ table. text.items ≡ table_text table))

pub returns-in_ok-generate-in-Gen-clause-last : goal.returns-in_ok-generate-in-Gen-clause-last
returns-in_ok-generate-in-Gen-clause-last g c = λ options job bytes run tells.
    absurd (no_run c.words_are_clear.ensures.one c.args.words.now.items (Command.Gen c.in-Gen.lines c.in-Gen.seed) (subst (IsCommand c.args.words.now.items) c.in-Gen.is c.in_ok-command.ensures.command) (λ job options same. cc) (run.tells.job, options, run.tells.is_run))

pub returns-in_ok-generate-in-Gen-clause-chain : goal.returns-in_ok-generate-in-Gen-clause-chain
returns-in_ok-generate-in-Gen-clause-chain g c = λ options job bytes run tells. none_stored job (λ a. lines (bytes a)) options.every (g.K.Keeper.images c.args.keeper.now) (g.K.Keeper.images c.args.keeper.now) refl

pub returns-in_ok-generate-in-Gen-clause-kept : goal.returns-in_ok-generate-in-Gen-clause-kept
returns-in_ok-generate-in-Gen-clause-kept g c = kept_still (g.K.Keeper.images c.args.keeper.now) (g.K.Keeper.images c.args.keeper.now) refl

pub returns-in_err-generate-in-Gen-clause-chain : goal.returns-in_err-generate-in-Gen-clause-chain
returns-in_err-generate-in-Gen-clause-chain g c = λ options job bytes run tells. none_stored job (λ a. lines (bytes a)) options.every (g.K.Keeper.images c.args.keeper.now) (g.K.Keeper.images c.args.keeper.now) refl

pub returns-in_err-generate-in-Gen-clause-kept : goal.returns-in_err-generate-in-Gen-clause-kept
returns-in_err-generate-in-Gen-clause-kept g c = kept_still (g.K.Keeper.images c.args.keeper.now) (g.K.Keeper.images c.args.keeper.now) refl

pub returns-in-Inspect-clause-chain : goal.returns-in-Inspect-clause-chain
returns-in-Inspect-clause-chain g c = λ options job bytes run tells. none_stored job (λ a. lines (bytes a)) options.every (g.K.Keeper.images c.args.keeper.now) (g.K.Keeper.images c.show_last.new.keeper) c.show_last.ensures.same

pub returns-in-Inspect-clause-kept : goal.returns-in-Inspect-clause-kept
returns-in-Inspect-clause-kept g c = kept_still (g.K.Keeper.images c.args.keeper.now) (g.K.Keeper.images c.show_last.new.keeper) c.show_last.ensures.same

pub returns-in-Inspect-clause-last : goal.returns-in-Inspect-clause-last
returns-in-Inspect-clause-last g c =
    no_last c.words_are_clear.ensures.one c.args.words.now.items Command.Inspect (subst (IsCommand c.args.words.now.items) c.in-Inspect.is c.in_ok-command.ensures.command) (λ job options same. cc)
    c.show_last.result (kinds c.args.functions.now) (g.F.Files.contents c.args.files.now) (λ text options job bytes. EndsWith options job bytes (g.K.Keeper.images c.args.keeper.now) (g.K.Keeper.images c.show_last.new.keeper) (λ table. text.items ≡ table_text table))

pub returns-in-SelfRun-clause-done : goal.returns-in-SelfRun-clause-done
returns-in-SelfRun-clause-done g c =
    let words = c.args.words.now.items in
    IfOk-weaker c.selfrun_text.result
    (λ (text : Items ℕ). HasRunOver (kinds c.args.functions.now) c.in-SelfRun.lines c.in-SelfRun.seed (λ all. text.items ≡ all))
    (λ (text : Items ℕ). Prints words (kinds c.args.functions.now) (g.F.Files.contents c.args.files.now) (g.K.Keeper.images c.args.keeper.now) (λ all. text.items ≡ all))
    (λ text ran. inr (inr (inr (inl (c.in-SelfRun.lines, c.in-SelfRun.seed, subst (IsCommand words) c.in-SelfRun.is c.in_ok-command.ensures.command, ran))))) c.selfrun_text.ensures.done

pub returns-in-SelfRun-clause-fault : goal.returns-in-SelfRun-clause-fault
returns-in-SelfRun-clause-fault g c =
    let words = c.args.words.now.items in
    IfErr-weaker c.selfrun_text.result (IsSelfFault (kinds c.args.functions.now))
    (IsFaultOf words (kinds c.args.functions.now) (g.F.Files.contents c.args.files.now) (g.K.Keeper.images c.args.keeper.now))
    (of_selfrun words (kinds c.args.functions.now) (g.F.Files.contents c.args.files.now) (g.K.Keeper.images c.args.keeper.now)
    (c.in-SelfRun.lines, c.in-SelfRun.seed, subst (IsCommand words) c.in-SelfRun.is c.in_ok-command.ensures.command))
    c.selfrun_text.ensures.fault

pub returns-in-SelfRun-clause-last : goal.returns-in-SelfRun-clause-last
returns-in-SelfRun-clause-last g c =
    no_last c.words_are_clear.ensures.one c.args.words.now.items (Command.SelfRun c.in-SelfRun.lines c.in-SelfRun.seed) (subst (IsCommand c.args.words.now.items) c.in-SelfRun.is c.in_ok-command.ensures.command) (λ job options same. cc)
    c.selfrun_text.result (kinds c.args.functions.now) (g.F.Files.contents c.args.files.now) (λ text options job bytes. EndsWith options job bytes (g.K.Keeper.images c.args.keeper.now) (g.K.Keeper.images c.args.keeper.now) (λ table. text.items ≡ table_text table))

pub returns-in-SelfRun-clause-input : goal.returns-in-SelfRun-clause-input
returns-in-SelfRun-clause-input g c =
    IfErr-weaker c.selfrun_text.result (IsSelfFault (kinds c.args.functions.now)) (λ (fault : Fault). status_of fault ≡ 4 → HasRisen (g.F.Files.faults c.args.files.now) (g.F.Files.faults c.args.files.now))
    (λ fault is status. absurd (not_input (kinds c.args.functions.now) fault is status)) c.selfrun_text.ensures.fault

pub returns-in-SelfRun-clause-keeper : goal.returns-in-SelfRun-clause-keeper
returns-in-SelfRun-clause-keeper g c =
    IfErr-weaker c.selfrun_text.result (IsSelfFault (kinds c.args.functions.now)) (λ (fault : Fault). status_of fault ≡ 5 → HasRisen (g.K.Keeper.faults c.args.keeper.now) (g.K.Keeper.faults c.args.keeper.now))
    (λ fault is status. absurd (not_keeper (kinds c.args.functions.now) fault is status)) c.selfrun_text.ensures.fault

pub returns-in-SelfRun-clause-no_output : goal.returns-in-SelfRun-clause-no_output
returns-in-SelfRun-clause-no_output g c =
    IfErr-weaker c.selfrun_text.result (IsSelfFault (kinds c.args.functions.now)) (λ (fault : Fault). status_of fault ≡ 7 → ⊥)
    (λ fault is status. not_output (kinds c.args.functions.now) fault is status) c.selfrun_text.ensures.fault

pub returns-in-SelfRun-clause-chain : goal.returns-in-SelfRun-clause-chain
returns-in-SelfRun-clause-chain g c = λ options job bytes run tells. none_stored job (λ a. lines (bytes a)) options.every (g.K.Keeper.images c.args.keeper.now) (g.K.Keeper.images c.args.keeper.now) refl

pub returns-in-SelfRun-clause-kept : goal.returns-in-SelfRun-clause-kept
returns-in-SelfRun-clause-kept g c = kept_still (g.K.Keeper.images c.args.keeper.now) (g.K.Keeper.images c.args.keeper.now) refl
