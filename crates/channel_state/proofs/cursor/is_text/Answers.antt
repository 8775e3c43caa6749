use Rattle.std.proofs.Common.{◌≡◌, true, leb, ◌&&◌, ap, sym, ◌∙◌, arith}
use Rattle.std.proofs.lemmas.Bool.{le-leb}
use Rattle.std.specs.Prelude.{is_none}
use Rattle.job_text.specs.KnownKinds.{every_kind}
use Rattle.job_text.specs.JobFaults.{first_fault}
use Rattle.channel_state.specs.Contents.{TEXT_MOST}
use Rattle.channel_state.proofs.TextLemmas.{text_read}
use Rattle.channel_state.proofs.cursor.is_text.Goals as goal

pub returns-then-text-le-TEXT_MOST : goal.returns-then-text-le-TEXT_MOST
returns-then-text-le-TEXT_MOST c =
    let text = c.args.text.now in
    let r = c.read_shape in
    let is = text_read text r.result r.ensures.ok r.ensures.err in
    c.is_ok.ensures.value ∙ is ∙ ap (λ t. t && is_none (first_fault every_kind text)) (sym (le-leb _ _ (omega arith)))
