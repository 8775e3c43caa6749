use Rattle.std.proofs.Common.{◌≡◌, ◌++◌, [], ◌∷◌, Contains, Some, IfSome, refl, sym, subst, inr, ◌∙◌}
use Rattle.outside.specs.Faults.{HasRisen}
use Rattle.flow_defs.specs.Lines.{lines}
use Rattle.stage_fns.specs.Kinds.{kinds}
use Rattle.commands.proofs.StatusLemmas.{known_status, no_link, not_zero, told_over, no_job, passes_limit, hindered}
use Rattle.commands.proofs.TopLemmas.{no_command, text_refused, job_refused, source_refused, not_done, pool_refused, pool_not_done, completes, script_refused, over_refused, over_not_done, bad_not_done, script_completes, gen_completes, self_completes, held_refused, held_not_done, inspect_refused, none_not_done, inspect_completes}
use Rattle.job_command.proofs.StoringLemmas.{large_too}
use Rattle.commands.proofs.LoadLemmas.{heavy_of_large}
use Rattle.commands.proofs.TextJobs.{one_work}
use Rattle.commands.proofs.top.answer.Goals as goal

pub returns-in-Ok-clause-source_refused : goal.returns-in-Ok-clause-source_refused
returns-in-Ok-clause-source_refused g c = λ options job bytes a run sources inside over.
    absurd (not_done c.args.words.now.items (kinds c.args.functions.now) (g.F.Files.contents c.args.files.now) (g.K.Keeper.images c.args.keeper.now) c.words_are_clear.ensures.no_fault c.words_are_clear.ensures.one options job run c.job_texts_are_clear.ensures.no_fault c.job_texts_are_clear.ensures.files bytes sources
    (λ text. IfSome (g.O.Sink.got c.args.out.now) (λ had. g.O.Sink.got c.run.new.out ≡ Some (had ++ text))) a inside over (c.in-Ok.ensures.done refl))

pub returns-in-Err-clause-text : goal.returns-in-Err-clause-text
returns-in-Err-clause-text g c = λ three. no_job c.args.words.now.items (kinds c.args.functions.now) (g.F.Files.contents c.args.files.now) (g.K.Keeper.images c.args.keeper.now) c.job_texts_are_clear.ensures.no_fault c.in-Err.fault (sym c.status.ensures ∙ three) c.in-Err.ensures.fault

pub returns-in-Err-clause-text_refused : goal.returns-in-Err-clause-text_refused
returns-in-Err-clause-text_refused g c = λ options text tells no.
    subst (Contains (3 ∷ 4 ∷ 70 ∷ [])) (sym c.status.ensures) (text_refused c.args.words.now.items (kinds c.args.functions.now) (g.F.Files.contents c.args.files.now) (g.K.Keeper.images c.args.keeper.now) c.words_are_clear.ensures.no_fault c.words_are_clear.ensures.one options text tells no c.in-Err.fault c.in-Err.ensures.fault)

pub returns-in-Err-clause-limit : goal.returns-in-Err-clause-limit
returns-in-Err-clause-limit g c = λ ten. passes_limit c.args.words.now.items (kinds c.args.functions.now) (g.F.Files.contents c.args.files.now) (g.K.Keeper.images c.args.keeper.now) c.start_exists.ensures.exists c.large_image_is_of_load.ensures.start c.in-Err.fault (sym c.status.ensures ∙ ten) c.in-Err.ensures.fault

pub returns-in-Err-clause-job_refused : goal.returns-in-Err-clause-job_refused
returns-in-Err-clause-job_refused g c = λ options text tells long.
    subst (Contains (10 ∷ 4 ∷ 70 ∷ [])) (sym c.status.ensures) (job_refused c.args.words.now.items (kinds c.args.functions.now) (g.F.Files.contents c.args.files.now) (g.K.Keeper.images c.args.keeper.now) c.words_are_clear.ensures.no_fault c.words_are_clear.ensures.one options text tells long c.in-Err.fault c.in-Err.ensures.fault)

pub returns-in-Err-clause-source_refused : goal.returns-in-Err-clause-source_refused
returns-in-Err-clause-source_refused g c = λ options job bytes a run sources inside over.
    subst (Contains (10 ∷ 4 ∷ 5 ∷ 8 ∷ 11 ∷ 12 ∷ 70 ∷ [])) (sym c.status.ensures)
    (source_refused c.args.words.now.items (kinds c.args.functions.now) (g.F.Files.contents c.args.files.now) (g.K.Keeper.images c.args.keeper.now) c.words_are_clear.ensures.no_fault c.words_are_clear.ensures.one options job run c.job_texts_are_clear.ensures.no_fault c.job_texts_are_clear.ensures.files bytes sources a inside over c.in-Err.fault c.in-Err.ensures.fault)

pub returns-in-Err-clause-complete : goal.returns-in-Err-clause-complete
returns-in-Err-clause-complete g c = λ options job bytes run sources enough within light empty no_input no_keeper no_output.
    subst (Contains (0 ∷ 11 ∷ 12 ∷ 70 ∷ [])) (sym c.status.ensures)
    (completes c.args.words.now.items (kinds c.args.functions.now) (g.F.Files.contents c.args.files.now) (g.K.Keeper.images c.args.keeper.now) c.words_are_clear.ensures.no_fault c.words_are_clear.ensures.one options job run c.job_texts_are_clear.ensures.no_fault c.job_texts_are_clear.ensures.files bytes sources enough within
    (λ other is after large. light (heavy_of_large c.start_exists.ensures.exists c.large_image_is_of_load.ensures.start job (λ a. lines (bytes a)) options.every (g.K.Keeper.images c.args.keeper.now) after run.is_job.is_job (large_too other job (one_work c.job_texts_are_clear.ensures.tasks c.job_texts_are_clear.ensures.work (kinds c.args.functions.now) run.text other job is run.is_job) (λ a. lines (bytes a)) options.every (g.K.Keeper.images c.args.keeper.now) after large)))
    empty c.in-Err.fault
    (λ four. no_input (c.in-Err.ensures.input four)) (λ five. no_keeper (c.in-Err.ensures.keeper five)) (λ seven. no_output (c.in-Err.ensures.output seven)) c.in-Err.ensures.fault)

pub returns-in-Err-clause-known : goal.returns-in-Err-clause-known
returns-in-Err-clause-known g c = subst (Contains (0 ∷ 2 ∷ 3 ∷ 4 ∷ 5 ∷ 7 ∷ 8 ∷ 10 ∷ 11 ∷ 12 ∷ 70 ∷ [])) (sym c.status.ensures)
    (known_status c.args.words.now.items (kinds c.args.functions.now) (g.F.Files.contents c.args.files.now) (g.K.Keeper.images c.args.keeper.now) c.in-Err.fault c.in-Err.ensures.fault)

pub returns-in-Err-clause-no_link : goal.returns-in-Err-clause-no_link
returns-in-Err-clause-no_link g c = λ six.
    no_link c.args.words.now.items (kinds c.args.functions.now) (g.F.Files.contents c.args.files.now) (g.K.Keeper.images c.args.keeper.now) c.in-Err.fault c.in-Err.ensures.fault (sym c.status.ensures ∙ six)

pub returns-in-Err-clause-over_credit : goal.returns-in-Err-clause-over_credit
returns-in-Err-clause-over_credit g c = λ eleven.
    told_over c.args.words.now.items (kinds c.args.functions.now) (g.F.Files.contents c.args.files.now) (g.K.Keeper.images c.args.keeper.now) (g.E.Sink.got c.args.err.now) (g.E.Sink.got c.tell.new.err)
    (HasRisen (g.E.Sink.faults c.args.err.now) (g.E.Sink.faults c.tell.new.err)) c.in-Err.fault (sym c.status.ensures ∙ eleven) c.in-Err.ensures.fault
    c.tell.ensures.front c.tell.ensures.told

pub returns-in-Ok-clause-script_refused : goal.returns-in-Ok-clause-script_refused
returns-in-Ok-clause-script_refused g c = λ text tells bad.
    absurd (bad_not_done c.args.words.now.items (kinds c.args.functions.now) (g.F.Files.contents c.args.files.now) (g.K.Keeper.images c.args.keeper.now) c.words_are_clear.ensures.no_fault c.words_are_clear.ensures.one text tells c.script_texts_are_clear.ensures.no_bad_line c.script_texts_are_clear.ensures.one_script
    (λ all. IfSome (g.O.Sink.got c.args.out.now) (λ had. g.O.Sink.got c.run.new.out ≡ Some (had ++ all))) bad (c.in-Ok.ensures.done refl))

pub returns-in-Ok-clause-over_refused : goal.returns-in-Ok-clause-over_refused
returns-in-Ok-clause-over_refused g c = λ text tells over.
    absurd (over_not_done c.args.words.now.items (kinds c.args.functions.now) (g.F.Files.contents c.args.files.now) (g.K.Keeper.images c.args.keeper.now) c.words_are_clear.ensures.no_fault c.words_are_clear.ensures.one text tells c.script_texts_are_clear.ensures.no_bad_line c.script_texts_are_clear.ensures.one_script
    (λ all. IfSome (g.O.Sink.got c.args.out.now) (λ had. g.O.Sink.got c.run.new.out ≡ Some (had ++ all))) over (c.in-Ok.ensures.done refl))

pub returns-in-Err-clause-script_refused : goal.returns-in-Err-clause-script_refused
returns-in-Err-clause-script_refused g c = λ text tells bad.
    subst (Contains (3 ∷ 4 ∷ 70 ∷ [])) (sym c.status.ensures)
    (script_refused c.args.words.now.items (kinds c.args.functions.now) (g.F.Files.contents c.args.files.now) (g.K.Keeper.images c.args.keeper.now) c.words_are_clear.ensures.no_fault c.words_are_clear.ensures.one text tells c.script_texts_are_clear.ensures.no_bad_line c.script_texts_are_clear.ensures.one_script bad c.in-Err.fault c.in-Err.ensures.fault)

pub returns-in-Err-clause-over_refused : goal.returns-in-Err-clause-over_refused
returns-in-Err-clause-over_refused g c = λ text tells over.
    subst (Contains (10 ∷ 4 ∷ 70 ∷ [])) (sym c.status.ensures)
    (over_refused c.args.words.now.items (kinds c.args.functions.now) (g.F.Files.contents c.args.files.now) (g.K.Keeper.images c.args.keeper.now) c.words_are_clear.ensures.no_fault c.words_are_clear.ensures.one text tells c.script_texts_are_clear.ensures.no_bad_line c.script_texts_are_clear.ensures.one_script over c.in-Err.fault c.in-Err.ensures.fault)

pub returns-in-Err-clause-complete_script : goal.returns-in-Err-clause-complete_script
returns-in-Err-clause-complete_script g c = λ text tells good no_input no_output.
    subst (Contains (0 ∷ 70 ∷ [])) (sym c.status.ensures)
    (script_completes c.args.words.now.items (kinds c.args.functions.now) (g.F.Files.contents c.args.files.now) (g.K.Keeper.images c.args.keeper.now) c.words_are_clear.ensures.no_fault c.words_are_clear.ensures.one text tells c.script_texts_are_clear.ensures.no_bad_line c.script_texts_are_clear.ensures.one_script good c.in-Err.fault
    (λ four. no_input (c.in-Err.ensures.input four)) (λ seven. no_output (c.in-Err.ensures.output seven)) c.in-Err.ensures.fault)

pub returns-in-Ok-clause-pool_refused : goal.returns-in-Ok-clause-pool_refused
returns-in-Ok-clause-pool_refused g c = λ options job run few.
    absurd (pool_not_done c.args.words.now.items (kinds c.args.functions.now) (g.F.Files.contents c.args.files.now) (g.K.Keeper.images c.args.keeper.now) c.words_are_clear.ensures.no_fault c.words_are_clear.ensures.one options job run c.job_texts_are_clear.ensures.no_fault c.job_texts_are_clear.ensures.files
    (λ text. IfSome (g.O.Sink.got c.args.out.now) (λ had. g.O.Sink.got c.run.new.out ≡ Some (had ++ text))) few (c.in-Ok.ensures.done refl))

pub returns-in-Err-clause-pool_refused : goal.returns-in-Err-clause-pool_refused
returns-in-Err-clause-pool_refused g c = λ options job run few.
    subst (Contains (10 ∷ 4 ∷ 70 ∷ [])) (sym c.status.ensures)
    (pool_refused c.args.words.now.items (kinds c.args.functions.now) (g.F.Files.contents c.args.files.now) (g.K.Keeper.images c.args.keeper.now) c.words_are_clear.ensures.no_fault c.words_are_clear.ensures.one options job run c.job_texts_are_clear.ensures.no_fault c.job_texts_are_clear.ensures.files few c.in-Err.fault c.in-Err.ensures.fault)

pub returns-in-Err-clause-usage : goal.returns-in-Err-clause-usage
returns-in-Err-clause-usage g c = λ two named. no_command c.args.words.now.items (kinds c.args.functions.now) (g.F.Files.contents c.args.files.now) (g.K.Keeper.images c.args.keeper.now) c.words_are_clear.ensures.no_fault c.words_are_clear.ensures.one c.in-Err.fault (sym c.status.ensures ∙ two) c.in-Err.ensures.fault named

pub returns-in-Err-clause-told : goal.returns-in-Err-clause-told
returns-in-Err-clause-told g c = inr (c.in-Err.fault, c.status.ensures, c.in-Err.ensures.fault, c.tell.ensures.front, c.tell.ensures.told)

pub returns-in-Err-clause-complete_gen : goal.returns-in-Err-clause-complete_gen
returns-in-Err-clause-complete_gen g c = λ lines seed gen no_output.
    subst (Contains (0 ∷ 70 ∷ [])) (sym c.status.ensures)
    (gen_completes c.args.words.now.items (kinds c.args.functions.now) (g.F.Files.contents c.args.files.now) (g.K.Keeper.images c.args.keeper.now) c.words_are_clear.ensures.no_fault c.words_are_clear.ensures.one lines seed gen c.in-Err.fault
    (λ seven. no_output (c.in-Err.ensures.output seven)) c.in-Err.ensures.fault)

pub returns-in-Err-clause-held : goal.returns-in-Err-clause-held
returns-in-Err-clause-held g c = λ eight.
    hindered c.args.words.now.items (kinds c.args.functions.now) (g.F.Files.contents c.args.files.now) (g.K.Keeper.images c.args.keeper.now) c.in-Err.fault (sym c.status.ensures ∙ eight) c.in-Err.ensures.fault

pub returns-in-Ok-clause-held_refused : goal.returns-in-Ok-clause-held_refused
returns-in-Ok-clause-held_refused g c = λ options job kept run enough told.
    absurd (held_not_done c.args.words.now.items (kinds c.args.functions.now) (g.F.Files.contents c.args.files.now) (g.K.Keeper.images c.args.keeper.now) c.words_are_clear.ensures.no_fault c.words_are_clear.ensures.one options job run c.job_texts_are_clear.ensures.no_fault c.job_texts_are_clear.ensures.files kept told
    (λ text. IfSome (g.O.Sink.got c.args.out.now) (λ had. g.O.Sink.got c.run.new.out ≡ Some (had ++ text))) (c.in-Ok.ensures.done refl))

pub returns-in-Err-clause-held_refused : goal.returns-in-Err-clause-held_refused
returns-in-Err-clause-held_refused g c = λ options job kept run enough told.
    subst (Contains (8 ∷ 5 ∷ 4 ∷ 70 ∷ [])) (sym c.status.ensures)
    (held_refused c.args.words.now.items (kinds c.args.functions.now) (g.F.Files.contents c.args.files.now) (g.K.Keeper.images c.args.keeper.now) c.words_are_clear.ensures.no_fault c.words_are_clear.ensures.one options job run c.job_texts_are_clear.ensures.no_fault c.job_texts_are_clear.ensures.files kept told enough c.in-Err.fault c.in-Err.ensures.fault)

pub returns-in-Ok-clause-inspect_refused : goal.returns-in-Ok-clause-inspect_refused
returns-in-Ok-clause-inspect_refused g c = λ images inspect told none.
    absurd (none_not_done c.args.words.now.items (kinds c.args.functions.now) (g.F.Files.contents c.args.files.now) (g.K.Keeper.images c.args.keeper.now) c.words_are_clear.ensures.no_fault c.words_are_clear.ensures.one images inspect told
    (λ text. IfSome (g.O.Sink.got c.args.out.now) (λ had. g.O.Sink.got c.run.new.out ≡ Some (had ++ text))) none (c.in-Ok.ensures.done refl))

pub returns-in-Err-clause-inspect_refused : goal.returns-in-Err-clause-inspect_refused
returns-in-Err-clause-inspect_refused g c = λ images inspect told none.
    subst (Contains (8 ∷ 5 ∷ 70 ∷ [])) (sym c.status.ensures)
    (inspect_refused c.args.words.now.items (kinds c.args.functions.now) (g.F.Files.contents c.args.files.now) (g.K.Keeper.images c.args.keeper.now) c.words_are_clear.ensures.no_fault c.words_are_clear.ensures.one images inspect told none c.in-Err.fault c.in-Err.ensures.fault)

pub returns-in-Err-clause-complete_inspect : goal.returns-in-Err-clause-complete_inspect
returns-in-Err-clause-complete_inspect g c = λ kept image inspect tells is_kept no_keeper no_output.
    subst (Contains (0 ∷ 70 ∷ [])) (sym c.status.ensures)
    (inspect_completes c.args.words.now.items (kinds c.args.functions.now) (g.F.Files.contents c.args.files.now) (g.K.Keeper.images c.args.keeper.now) c.words_are_clear.ensures.no_fault c.words_are_clear.ensures.one tells.0 inspect tells.1 kept image tells.2 is_kept c.in-Err.fault
    (λ five. no_keeper (c.in-Err.ensures.keeper five)) (λ seven. no_output (c.in-Err.ensures.output seven)) c.in-Err.ensures.fault)

pub returns-in-Ok-clause-last : goal.returns-in-Ok-clause-last
returns-in-Ok-clause-last g c = λ zero. c.in-Ok.ensures.last refl

pub returns-in-Err-clause-last : goal.returns-in-Err-clause-last
returns-in-Err-clause-last g c = λ zero.
    absurd (not_zero c.args.words.now.items (kinds c.args.functions.now) (g.F.Files.contents c.args.files.now) (g.K.Keeper.images c.args.keeper.now) c.in-Err.fault (sym c.status.ensures ∙ zero))

pub returns-in-Err-clause-complete_selfrun : goal.returns-in-Err-clause-complete_selfrun
returns-in-Err-clause-complete_selfrun g c = λ lines seed self has no_output.
    subst (Contains (0 ∷ 11 ∷ 12 ∷ 70 ∷ [])) (sym c.status.ensures)
    (self_completes c.args.words.now.items (kinds c.args.functions.now) (g.F.Files.contents c.args.files.now) (g.K.Keeper.images c.args.keeper.now) c.words_are_clear.ensures.no_fault c.words_are_clear.ensures.one lines seed self c.job_texts_are_clear.ensures.no_fault has c.in-Err.fault
    (λ seven. no_output (c.in-Err.ensures.output seven)) c.in-Err.ensures.fault)
