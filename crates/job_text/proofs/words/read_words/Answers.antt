use Rattle.std.proofs.Common.{◌≡◌, true, ◌∷◌, sym, ap, ◌∙◌, subst, arith}
use Rattle.std.specs.Prelude.{codes, bytes_eq, IfOk, IfErr}
use Rattle.job_text.specs.Words.{IsCommand, IsUsage, lines_fault, no_options_fault, usage_fault}
use Rattle.job_text.proofs.OptionLemmas.{behind_first, first_of}
use Rattle.job_text.proofs.WordLemmas.{ranges_of, named_command, accepted, usage_told, gen_usage, selfrun_usage, inspect_usage}
use Rattle.job_text.proofs.words.read_words.Goals as goal

pub returns-then-eq-clause-command : goal.returns-then-eq-clause-command
returns-then-eq-clause-command c =
    let words = c.as_slice.result.now in
    let front : words ≡ c.command-item.result ∷ behind_first words = first_of words _ (grind arith) (grind arith) in
    let run : bytes_eq c.command-item.result (codes "run") ≡ true = grind arith in
    let same : words ≡ c.args.words.now.items = grind arith in
    subst (λ ws. IfOk c.read_run.result (IsCommand ws)) same (named_command words (behind_first words) _ (codes "run") c.read_run.result front run c.read_run.ensures.command)

pub returns-then-eq-clause-ranges : goal.returns-then-eq-clause-ranges
returns-then-eq-clause-ranges c = ranges_of c.args.words.now.items c.read_run.result (returns-then-eq-clause-command c)

pub returns-then-eq-clause-accepted : goal.returns-then-eq-clause-accepted
returns-then-eq-clause-accepted c = accepted c.args.words.now.items

pub returns-then-eq-2-clause-command : goal.returns-then-eq-2-clause-command
returns-then-eq-2-clause-command c =
    let words = c.as_slice.result.now in
    let front : words ≡ c.command-item.result ∷ behind_first words = first_of words _ (grind arith) (grind arith) in
    let script : bytes_eq c.command-item.result (codes "script") ≡ true = grind arith in
    let same : words ≡ c.args.words.now.items = grind arith in
    subst (λ ws. IfOk c.read_script.result (IsCommand ws)) same (named_command words (behind_first words) _ (codes "script") c.read_script.result front script c.read_script.ensures.command)

pub returns-then-eq-2-clause-accepted : goal.returns-then-eq-2-clause-accepted
returns-then-eq-2-clause-accepted c = accepted c.args.words.now.items

pub returns-then-eq-3-clause-command : goal.returns-then-eq-3-clause-command
returns-then-eq-3-clause-command c =
    let words = c.as_slice.result.now in
    let front : words ≡ c.command-item.result ∷ behind_first words = first_of words _ (grind arith) (grind arith) in
    let gen : bytes_eq c.command-item.result (codes "gen") ≡ true = grind arith in
    let same : words ≡ c.args.words.now.items = grind arith in
    subst (λ ws. IfOk c.read_gen.result (IsCommand ws)) same (named_command words (behind_first words) _ (codes "gen") c.read_gen.result front gen c.read_gen.ensures.command)

pub returns-then-eq-3-clause-accepted : goal.returns-then-eq-3-clause-accepted
returns-then-eq-3-clause-accepted c = accepted c.args.words.now.items

pub returns-then-eq-3-clause-usage : goal.returns-then-eq-3-clause-usage
returns-then-eq-3-clause-usage c =
    let words = c.as_slice.result.now in
    let front : words ≡ c.command-item.result ∷ behind_first words = first_of words _ (grind arith) (grind arith) in
    let gen : bytes_eq c.command-item.result (codes "gen") ≡ true = grind arith in
    let same : words ≡ c.args.words.now.items = grind arith in
    let is : usage_fault c.args.words.now.items ≡ lines_fault (behind_first words) = ap usage_fault (sym same) ∙ gen_usage words (behind_first words) _ front gen in
    usage_told c.args.words.now.items c.read_gen.result (returns-then-eq-3-clause-command c) (subst (λ fault. IfErr c.read_gen.result (λ told. IsUsage told fault)) (sym is) c.read_gen.ensures.fault)

pub returns-then-eq-4-clause-command : goal.returns-then-eq-4-clause-command
returns-then-eq-4-clause-command c =
    let words = c.as_slice.result.now in
    let front : words ≡ c.command-item.result ∷ behind_first words = first_of words _ (grind arith) (grind arith) in
    let selfrun : bytes_eq c.command-item.result (codes "selfrun") ≡ true = grind arith in
    let same : words ≡ c.args.words.now.items = grind arith in
    subst (λ ws. IfOk c.read_selfrun.result (IsCommand ws)) same (named_command words (behind_first words) _ (codes "selfrun") c.read_selfrun.result front selfrun c.read_selfrun.ensures.command)

pub returns-then-eq-4-clause-accepted : goal.returns-then-eq-4-clause-accepted
returns-then-eq-4-clause-accepted c = accepted c.args.words.now.items

pub returns-then-eq-4-clause-usage : goal.returns-then-eq-4-clause-usage
returns-then-eq-4-clause-usage c =
    let words = c.as_slice.result.now in
    let front : words ≡ c.command-item.result ∷ behind_first words = first_of words _ (grind arith) (grind arith) in
    let selfrun : bytes_eq c.command-item.result (codes "selfrun") ≡ true = grind arith in
    let same : words ≡ c.args.words.now.items = grind arith in
    let is : usage_fault c.args.words.now.items ≡ lines_fault (behind_first words) = ap usage_fault (sym same) ∙ selfrun_usage words (behind_first words) _ front selfrun in
    usage_told c.args.words.now.items c.read_selfrun.result (returns-then-eq-4-clause-command c) (subst (λ fault. IfErr c.read_selfrun.result (λ told. IsUsage told fault)) (sym is) c.read_selfrun.ensures.fault)

pub returns-then-eq-5-clause-command : goal.returns-then-eq-5-clause-command
returns-then-eq-5-clause-command c =
    let words = c.as_slice.result.now in
    let front : words ≡ c.command-item.result ∷ behind_first words = first_of words _ (grind arith) (grind arith) in
    let inspect : bytes_eq c.command-item.result (codes "inspect") ≡ true = grind arith in
    let same : words ≡ c.args.words.now.items = grind arith in
    subst (λ ws. IfOk c.read_inspect.result (IsCommand ws)) same (named_command words (behind_first words) _ (codes "inspect") c.read_inspect.result front inspect c.read_inspect.ensures.command)

pub returns-then-eq-5-clause-accepted : goal.returns-then-eq-5-clause-accepted
returns-then-eq-5-clause-accepted c = accepted c.args.words.now.items

pub returns-then-eq-5-clause-usage : goal.returns-then-eq-5-clause-usage
returns-then-eq-5-clause-usage c =
    let words = c.as_slice.result.now in
    let front : words ≡ c.command-item.result ∷ behind_first words = first_of words _ (grind arith) (grind arith) in
    let inspect : bytes_eq c.command-item.result (codes "inspect") ≡ true = grind arith in
    let same : words ≡ c.args.words.now.items = grind arith in
    let is : usage_fault c.args.words.now.items ≡ no_options_fault (behind_first words) = ap usage_fault (sym same) ∙ inspect_usage words (behind_first words) _ front inspect in
    usage_told c.args.words.now.items c.read_inspect.result (returns-then-eq-5-clause-command c) (subst (λ fault. IfErr c.read_inspect.result (λ told. IsUsage told fault)) (sym is) c.read_inspect.ensures.fault)
