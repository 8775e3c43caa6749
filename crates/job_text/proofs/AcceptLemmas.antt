-- Lines of a job have no fault.
use Rattle.std.proofs.Common.{◌≡◌, ℕ, suc, ◌≤◌, Bool, true, false, not, eqb, List, [], ◌∷◌, refl, ap, ◌∙◌, Option, Some, None, arith, lit<}
use Rattle.std.specs.Prelude.{codes, decimal, unwrap_or, All}
use Rattle.std.specs.List.{AllByRecursion, list_all}
use Rattle.std.specs.Str.{all_ascii_digits}
use Rattle.std.proofs.lemmas.Bool.{and_from, and_parts, not_from_false, not-true, cond-false, ne_eqb, leb-true}
use Rattle.std.proofs.lemmas.List.Elements.{All-nil, All-cons, All-head, All-tail}
use Rattle.std.proofs.lemmas.List.Splits.{slice_split_none, slice_split_at}
use Rattle.flow_defs.specs.Stages.{IsArgument, pieces}
use Rattle.flow_defs.specs.declared.job.TheConstants.{TASKS_MAX}
use Rattle.flow_defs.specs.declared.job.StageKind.{StageKind}
use Rattle.flow_defs.specs.declared.job.StageKind.TheVariants.{Words, Upper, Keep, Field}
use Rattle.flow_defs.specs.declared.job.AggKind.{AggKind}
use Rattle.flow_defs.specs.declared.job.AggKind.TheVariants.{Count, Sum, Max}
use Rattle.flow_defs.specs.declared.job.Exchange.{Exchange}
use Rattle.flow_defs.specs.declared.job.Exchange.TheVariants.{Hash, Rebalance, Forward}
use Rattle.stage_fns.specs.Functions.{Functions}
use Rattle.job_text.specs.JobText.{kind_word, exchange_word, agg_word, line_of}
use Rattle.job_text.specs.JobFaults.{Place, number_of, behind, line_fault, words_fault, behind_words}
use Rattle.job_text.specs.Reading.{IsSource, IsStage, IsAggregate}
use Rattle.job_text.proofs.Numbers.{decimal_spelled}
use Rattle.job_text.proofs.SpellingLemmas.{token_spelled, decimal_number, agg_spelled, exchange_spelled, kind_spelled}
use Rattle.job_text.proofs.ReadLemmas.{source_passes, aggregate_passes, stage_passes}

-- ---- words without spaces

abbrev pub has_no_space : List ℕ → Bool
has_no_space word = list_all (λ b. not (eqb b 32)) word

no_spaces : (word : List ℕ) → has_no_space word ≡ true → All (λ b. eqb b 32 ≡ false) word
no_spaces [] is = All-nil (λ b. eqb b 32 ≡ false)
no_spaces (b ∷ word) is = let parts = and_parts _ _ is in All-cons (λ c. eqb c 32 ≡ false) b word (not-true _ parts.0) (no_spaces word parts.1)

pub visible_no_space : (word : List ℕ) → All (λ b. (33 ≤ b) × (b ≤ 126)) word → has_no_space word ≡ true
visible_no_space [] is = refl
visible_no_space (b ∷ word) is =
    let here = All-head (λ c. (33 ≤ c) × (c ≤ 126)) b word is in
    and_from _ _ (not_from_false _ (ne_eqb b 32 (λ space. let low = here.0 in omega (arith, low, space)))) (visible_no_space word (All-tail (λ c. (33 ≤ c) × (c ≤ 126)) b word is))

digits_no_space : (word : List ℕ) → all_ascii_digits word ≡ true → has_no_space word ≡ true
digits_no_space [] is = refl
digits_no_space (b ∷ word) is =
    let parts = and_parts _ _ is in
    let here = and_parts _ _ parts.0 in
    and_from _ _ (not_from_false _ (ne_eqb b 32 (λ space. let low = leb-true 48 b here.0 in omega (arith, low, space)))) (digits_no_space word parts.1)

pub decimal_no_space : (n : ℕ) → 1 ≤ n → n ≤ 9999 → has_no_space (decimal n) ≡ true
decimal_no_space n low high = let is = decimal_spelled 9999 n (lit< tt) low high in digits_no_space (decimal n) is.digits

pub kind_no_space : (kind : StageKind) (arg : List ℕ) → IsArgument kind arg → has_no_space (kind_word kind arg) ≡ true
kind_no_space Words arg is = refl
kind_no_space Upper arg is = refl
kind_no_space Keep arg is = visible_no_space arg is.visible
kind_no_space Field arg is = ap has_no_space is.1 ∙ decimal_no_space is.0 is.2 is.3

pub exchange_no_space : (exchange : Exchange) → has_no_space (exchange_word exchange) ≡ true
exchange_no_space Hash = refl
exchange_no_space Rebalance = refl
exchange_no_space Forward = refl

pub agg_no_space : (kind : AggKind) → has_no_space (agg_word kind) ≡ true
agg_no_space Count = refl
agg_no_space Sum = refl
agg_no_space Max = refl

-- the pieces of a line are its words
pub words_of_line : (first : List ℕ) (words : List (List ℕ)) → has_no_space first ≡ true → AllByRecursion (λ word. has_no_space word ≡ true) words → pieces 32 (line_of (first ∷ words)) ≡ first ∷ words
words_of_line first [] none more = slice_split_none (λ b. eqb b 32) first (no_spaces first none)
words_of_line first (second ∷ words) none more = slice_split_at (λ b. eqb b 32) first 32 (line_of (second ∷ words)) (no_spaces first none) refl ∙ ap (λ w. first ∷ w) (words_of_line second words more.0 more.1)

-- ---- a line that is one of a job's has no fault, and the next stands behind it

-- what has been found of a line by its words
module _ (functions : Functions) (place : Place) (text : List ℕ) (words : List (List ℕ)) (going : place.ended ≡ false) (words_are : pieces 32 text ≡ words) where
  pub fault_by_words : line_fault functions place text ≡ words_fault functions place words
  fault_by_words = cond-false place.ended _ _ going ∙ ap (words_fault functions place) words_are

  pub behind_by_words : behind place text ≡ behind_words place words
  behind_by_words = ap (behind_words place) words_are

module _ (functions : Functions) (place : Place) (going : place.ended ≡ false) where
  module _ (file text : List ℕ) (is : IsSource place file text) where
    source_words : pieces 32 text ≡ codes "source" ∷ file ∷ []
    source_words = ap (pieces 32) is.text_is ∙ words_of_line (codes "source") (file ∷ []) refl (visible_no_space file is.name.visible, tt)

    pub source_accepted : line_fault functions place text ≡ None
    source_accepted = fault_by_words functions place text _ going source_words ∙ source_passes place (codes "source") file refl is.no_stage (token_spelled file is.name) is.few

    pub source_behind : behind place text ≡ record place { sources = suc place.sources; tasks = suc place.sources }
    source_behind = behind_by_words functions place text _ going source_words

  module _ (kind : AggKind) (tasks : ℕ) (text : List ℕ) (is : IsAggregate functions place kind tasks text) where
    aggregate_words : pieces 32 text ≡ codes "aggregate" ∷ agg_word kind ∷ decimal tasks ∷ []
    aggregate_words = ap (pieces 32) is.text_is ∙ words_of_line (codes "aggregate") (agg_word kind ∷ decimal tasks ∷ []) refl (agg_no_space kind, (decimal_no_space tasks is.low (let high = is.high in omega arith), tt))

    pub aggregate_accepted : line_fault functions place text ≡ None
    aggregate_accepted =
        fault_by_words functions place text _ going aggregate_words
        ∙ aggregate_passes functions place (codes "aggregate") (agg_word kind) (decimal tasks) kind tasks refl is.sources (agg_spelled kind) is.has_function (decimal_number TASKS_MAX tasks (lit< tt) is.low is.high)

    pub aggregate_behind : behind place text ≡ record place { ended = true }
    aggregate_behind = behind_by_words functions place text _ going aggregate_words

  module _ (kind : StageKind) (arg : List ℕ) (tasks : ℕ) (exchange : Exchange) (text : List ℕ) (is : IsStage functions place kind arg tasks exchange text) where
    stage_words : pieces 32 text ≡ codes "stage" ∷ kind_word kind arg ∷ decimal tasks ∷ exchange_word exchange ∷ []
    stage_words =
        ap (pieces 32) is.text_is
        ∙ words_of_line (codes "stage") (kind_word kind arg ∷ decimal tasks ∷ exchange_word exchange ∷ []) refl
        (kind_no_space kind arg is.fits.argument, (decimal_no_space tasks is.fits.low (let high = is.fits.high in omega arith), (exchange_no_space exchange, tt)))

    stage_tasks : number_of TASKS_MAX (decimal tasks) ≡ Some tasks
    stage_tasks = decimal_number TASKS_MAX tasks (lit< tt) is.fits.low is.fits.high

    pub stage_accepted : line_fault functions place text ≡ None
    stage_accepted =
        fault_by_words functions place text _ going stage_words
        ∙ stage_passes functions place (codes "stage") (kind_word kind arg) (decimal tasks) (exchange_word exchange) kind arg tasks exchange refl is.sources is.few
        (kind_spelled kind arg is.fits.argument) is.fits.has_function stage_tasks (exchange_spelled exchange) is.fits.width

    pub stage_behind : behind place text ≡ record place { stages = suc place.stages; tasks = tasks }
    stage_behind = behind_by_words functions place text _ going stage_words ∙ ap (λ (o : Option ℕ). record place { stages = suc place.stages; tasks = unwrap_or o 0 }) stage_tasks
