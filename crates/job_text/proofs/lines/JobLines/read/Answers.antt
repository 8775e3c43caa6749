use Rattle.std.proofs.Common.{◌≡◌, ◌∷◌, [], ℕ, List, Bor, Option, ap, sym, ◌∙◌}
use Rattle.job_text.specs.KnownKinds.{known}
use Rattle.flow_defs.specs.Stages.{pieces}
use Rattle.job_text.specs.JobFaults.{words_fault}
use Rattle.job_text.specs.Reading.{place_of}
use Rattle.job_text.proofs.CutLemmas.{pieces_left, five_words, no_pieces, by_words, by_any_words}
use Rattle.job_text.proofs.lines.JobLines.read.Goals as goal

pub returns-in_default-rest : goal.returns-in_default-rest
returns-in_default-rest g c =
    let a = c.cut_word.result.0.now in
    let b = c.cut_word-2.result.0.now in
    let words : pieces 32 c.args.line.now ≡ a ∷ b ∷ [] =
    c.cut_word.ensures ∙ ap (λ (o : Option (Bor (List ℕ))). a ∷ pieces_left o) c.in-Some.is
    ∙ ap (λ w. a ∷ w) c.cut_word-2.ensures ∙ ap (λ (o : Option (Bor (List ℕ))). a ∷ b ∷ pieces_left o) c.in_default-rest.is in
    by_any_words (known c.args.functions) c.args.self.now c.args.line.now (a ∷ b ∷ []) c.read_source.result words c.read_source.ensures.ok c.read_source.ensures.err

pub returns-in_default-rest-2 : goal.returns-in_default-rest-2
returns-in_default-rest-2 g c =
    let a = c.cut_word.result.0.now in
    let b = c.cut_word-2.result.0.now in
    let d = c.cut_word-3.result.0.now in
    let words : pieces 32 c.args.line.now ≡ a ∷ b ∷ d ∷ [] =
    c.cut_word.ensures ∙ ap (λ (o : Option (Bor (List ℕ))). a ∷ pieces_left o) c.in-Some.is
    ∙ ap (λ w. a ∷ w) c.cut_word-2.ensures ∙ ap (λ (o : Option (Bor (List ℕ))). a ∷ b ∷ pieces_left o) c.in-Some-rest.is
    ∙ ap (λ w. a ∷ b ∷ w) c.cut_word-3.ensures ∙ ap (λ (o : Option (Bor (List ℕ))). a ∷ b ∷ d ∷ pieces_left o) c.in_default-rest-2.is in
    by_words (known c.args.functions) c.args.self.now c.args.line.now (a ∷ b ∷ d ∷ []) c.read_aggregate.result words c.read_aggregate.ensures.ok c.read_aggregate.ensures.err

pub returns-then-is_some : goal.returns-then-is_some
returns-then-is_some g c =
    let a = c.cut_word.result.0.now in
    let b = c.cut_word-2.result.0.now in
    let d = c.cut_word-3.result.0.now in
    let e = c.cut_word-4.result.0.now in
    let words : pieces 32 c.args.line.now ≡ a ∷ b ∷ d ∷ e ∷ pieces_left c.cut_word-4.result.1 =
    c.cut_word.ensures ∙ ap (λ (o : Option (Bor (List ℕ))). a ∷ pieces_left o) c.in-Some.is
    ∙ ap (λ w. a ∷ w) c.cut_word-2.ensures ∙ ap (λ (o : Option (Bor (List ℕ))). a ∷ b ∷ pieces_left o) c.in-Some-rest.is
    ∙ ap (λ w. a ∷ b ∷ w) c.cut_word-3.ensures ∙ ap (λ (o : Option (Bor (List ℕ))). a ∷ b ∷ d ∷ pieces_left o) c.in-Some-rest-2.is
    ∙ ap (λ w. a ∷ b ∷ d ∷ w) c.cut_word-4.ensures in
    let functions = known c.args.functions in
    let place = place_of c.args.self.now in
    ap (words_fault functions place) words ∙ five_words functions place a b d e c.cut_word-4.result.1 (sym c.is_some.ensures ∙ c.if-is_some.true)

pub returns : goal.returns
returns g c =
    let a = c.cut_word.result.0.now in
    let b = c.cut_word-2.result.0.now in
    let d = c.cut_word-3.result.0.now in
    let e = c.cut_word-4.result.0.now in
    let words : pieces 32 c.args.line.now ≡ a ∷ b ∷ d ∷ e ∷ [] =
    c.cut_word.ensures ∙ ap (λ (o : Option (Bor (List ℕ))). a ∷ pieces_left o) c.in-Some.is
    ∙ ap (λ w. a ∷ w) c.cut_word-2.ensures ∙ ap (λ (o : Option (Bor (List ℕ))). a ∷ b ∷ pieces_left o) c.in-Some-rest.is
    ∙ ap (λ w. a ∷ b ∷ w) c.cut_word-3.ensures ∙ ap (λ (o : Option (Bor (List ℕ))). a ∷ b ∷ d ∷ pieces_left o) c.in-Some-rest-2.is
    ∙ ap (λ w. a ∷ b ∷ d ∷ w) c.cut_word-4.ensures ∙ ap (λ w. a ∷ b ∷ d ∷ e ∷ w) (no_pieces c.cut_word-4.result.1 (sym c.is_some.ensures ∙ c.if-is_some.false)) in
    by_words (known c.args.functions) c.args.self.now c.args.line.now (a ∷ b ∷ d ∷ e ∷ []) c.read_stage.result words c.read_stage.ensures.ok c.read_stage.ensures.err
