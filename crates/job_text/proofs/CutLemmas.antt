-- A line and its words, cut one by one.
use Rattle.std.proofs.Common.{◌≡◌, ℕ, suc, ◌+◌, ◌<◌, Bool, true, false, cond, eqb, List, [], ◌∷◌, length, refl, sym, ap, ◌∙◌, subst, Option, Some, None, is_some, Result, Ok, Err, IfOk, IfErr, MatchResult, Bor, arith}
use Rattle.std.specs.Option.{option_map_or}
use Rattle.std.specs.List.{onto_first}
use Rattle.std.proofs.lemmas.List.Splits.{join_with_byte-slice_split}
use Rattle.std.proofs.lemmas.Bool.{cond-true}
use Rattle.flow_defs.specs.Lines.{lines, onto_first_line}
use Rattle.flow_defs.specs.Stages.{pieces}
use Rattle.flow_defs.specs.declared.job.StageKind.{StageKind}
use Rattle.flow_defs.specs.declared.job.Exchange.{Exchange}
use Rattle.stage_fns.specs.Functions.{Functions}
use Rattle.job_text.specs.declared.lines.JobLines.{JobLines}
use Rattle.job_text.specs.declared.lines.Line.{Line}
use Rattle.job_text.specs.declared.lines.Line.TheVariants as line
use Rattle.job_text.specs.declared.fault.JobFault.{JobFault}
use Rattle.job_text.specs.declared.fault.JobFault.TheVariants.{Extra, Missing, BadLine}
use Rattle.job_text.specs.JobText.{line_of}
use Rattle.job_text.specs.JobFaults.{Place, line_fault, words_fault, behind, fault_from}
use Rattle.job_text.specs.Reading.{place_of, lines_left, fault_left, IsLine, behind_line, LinesGoOn, TakesLine}
use Rattle.job_text.proofs.AcceptLemmas.{source_accepted, source_behind, stage_accepted, stage_behind, aggregate_accepted, aggregate_behind}

abbrev pub pieces_left : Option (Bor (List ℕ)) → List (List ℕ)
pieces_left rest = option_map_or (λ (r : Bor (List ℕ)). pieces 32 r.now) rest []

-- ---- a word, and what follows it

onto_some : (b : ℕ) (parts : List (List ℕ)) → (word : List ℕ) × (more : List (List ℕ)) × (onto_first b parts ≡ word ∷ more)
onto_some b [] = (b ∷ [], [], refl)
onto_some b (part ∷ parts) = (b ∷ part, parts, refl)

cond_some : (test : Bool) (b : ℕ) (parts : List (List ℕ)) → (word : List ℕ) × (more : List (List ℕ)) × (cond test ([] ∷ parts) (onto_first b parts) ≡ word ∷ more)
cond_some true b parts = ([], parts, refl)
cond_some false b parts = onto_some b parts

some_piece : (bytes : List ℕ) → (word : List ℕ) × (more : List (List ℕ)) × (pieces 32 bytes ≡ word ∷ more)
some_piece [] = ([], [], refl)
some_piece (b ∷ bytes) = cond_some (eqb b 32) b (pieces 32 bytes)

pub more_pieces : (rest : Option (Bor (List ℕ))) → is_some rest ≡ true → (word : List ℕ) × (more : List (List ℕ)) × (pieces_left rest ≡ word ∷ more)
more_pieces None some = absurd (cc)
more_pieces (Some r) some = some_piece r.now

pub no_pieces : (rest : Option (Bor (List ℕ))) → is_some rest ≡ false → pieces_left rest ≡ []
no_pieces None none = refl
no_pieces (Some r) none = absurd (cc)

pub five_words : (functions : Functions) (place : Place) (a b c d : List ℕ) (rest : Option (Bor (List ℕ))) → is_some rest ≡ true → words_fault functions place (a ∷ b ∷ c ∷ d ∷ pieces_left rest) ≡ Some BadLine
five_words functions place a b c d rest some = let more = more_pieces rest some in ap (λ w. words_fault functions place (a ∷ b ∷ c ∷ d ∷ w)) more.2

-- ---- what is found by the words is found of the line

pub by_words : (functions : Functions) (reader : JobLines) (text : List ℕ) (words : List (List ℕ)) (r : Result Line JobFault) → pieces 32 text ≡ words
    → IfOk r (λ l. IsLine functions (place_of reader) l (line_of words)) → IfErr r (λ kind. words_fault functions (place_of reader) words ≡ Some kind)
    → MatchResult r (λ l. IsLine functions (place_of reader) l text) (λ kind. words_fault functions (place_of reader) (pieces 32 text) ≡ Some kind)
by_words functions reader text words (Ok l) words_are ok err = subst (IsLine functions (place_of reader) l) (sym (sym (join_with_byte-slice_split 32 text) ∙ ap line_of words_are)) ok
by_words functions reader text words (Err kind) words_are ok err = ap (words_fault functions (place_of reader)) words_are ∙ err

-- ---- the next line

module _ (functions : Functions) (old : JobLines) (text : List ℕ) (rest : List (List ℕ)) (lines_are : lines_left old ≡ text ∷ rest) where
  -- where the first line has no fault
  passed : (place : Place) → line_fault functions (place_of old) text ≡ None → behind (place_of old) text ≡ place → fault_left functions old ≡ fault_from functions place (suc old.number) rest
  passed place fine next =
      ap (fault_from functions (place_of old) old.number) lines_are
      ∙ ap (λ (o : Option JobFault). option_map_or (λ fault. Some (old.number, fault)) o (fault_from functions (behind (place_of old) text) (suc old.number) rest)) fine
      ∙ ap (λ p. fault_from functions p (suc old.number) rest) next

  pub passed_line : (l : Line) → IsLine functions (place_of old) l text → fault_left functions old ≡ fault_from functions (behind_line (place_of old) l) (suc old.number) rest
  passed_line (line.Source file) is = passed _ (source_accepted functions (place_of old) refl file.now text is) (source_behind functions (place_of old) refl file.now text is)
  passed_line (line.Stage kind arg tasks exchange) is = passed _ (stage_accepted functions (place_of old) refl kind arg.now tasks exchange text is) (stage_behind functions (place_of old) refl kind arg.now tasks exchange text is)
  passed_line (line.Aggregate kind tasks) is = passed _ (aggregate_accepted functions (place_of old) refl kind tasks text is) (aggregate_behind functions (place_of old) refl kind tasks text is)

-- ---- the reader behind the line

abbrev place : ℕ → ℕ → ℕ → Place
place sources stages tasks = record { sources = sources; stages = stages; tasks = tasks; ended = false }

same_place : (a b x y m n : ℕ) → a ≡ b → x ≡ y → m ≡ n → place a x m ≡ place b y n
same_place a b x y m n first second third = ap (λ k. place k x m) first ∙ ap (λ k. place b k m) second ∙ ap (λ k. place b y k) third

more : (m n : ℕ) → m ≡ n + 1 → m ≡ suc n
more m n is = omega (arith, is)

pub source_place : (old new : JobLines) (file : Bor (List ℕ)) → new.sources ≡ old.sources + 1 → new.stages ≡ old.stages → new.tasks ≡ old.sources + 1 → place_of new ≡ behind_line (place_of old) (line.Source file)
source_place old new file sources stages tasks = same_place new.sources (suc old.sources) new.stages old.stages new.tasks (suc old.sources) (more _ _ sources) stages (more _ _ tasks)

pub stage_place : (old new : JobLines) (kind : StageKind) (arg : Bor (List ℕ)) (tasks : ℕ) (exchange : Exchange) → new.sources ≡ old.sources → new.stages ≡ old.stages + 1 → new.tasks ≡ tasks → place_of new ≡ behind_line (place_of old) (line.Stage kind arg tasks exchange)
stage_place old new kind arg tasks exchange sources stages tasks_are = same_place new.sources old.sources new.stages (suc old.stages) new.tasks tasks sources (more _ _ stages) tasks_are

onto_some_line : (b : ℕ) (all : List (List ℕ)) → (l : List ℕ) × (ls : List (List ℕ)) × (onto_first_line (b ∷ []) all ≡ l ∷ ls)
onto_some_line b [] = (b ∷ [], [], refl)
onto_some_line b (l ∷ ls) = (b ∷ l, ls, refl)

cond_line : (test : Bool) (b : ℕ) (all : List (List ℕ)) → (l : List ℕ) × (ls : List (List ℕ)) × (cond test ([] ∷ all) (onto_first_line (b ∷ []) all) ≡ l ∷ ls)
cond_line true b all = ([], all, refl)
cond_line false b all = onto_some_line b all

some_line : (bytes : List ℕ) → (length bytes ≡ 0 → ⊥) → (l : List ℕ) × (ls : List (List ℕ)) × (lines bytes ≡ l ∷ ls)
some_line [] some = absurd (some refl)
some_line (b ∷ bytes) some = cond_line (eqb b 10) b (lines bytes)

pub no_line : (bytes : List ℕ) → length bytes ≡ 0 → lines bytes ≡ []
no_line [] none = refl
no_line (b ∷ bytes) none = absurd (omega arith)

module _ (functions : Functions) (old : JobLines) (text rest : List ℕ) (l : Line) (lines_are : lines_left old ≡ text ∷ lines rest) (is_line : IsLine functions (place_of old) l text) where
  pub line_behind_last : (place_ended : (behind_line (place_of old) l).ended ≡ true) → (length rest ≡ 0 → ⊥) → fault_left functions old ≡ Some (suc old.number, Extra)
  line_behind_last ended some =
      let first = some_line rest some in
      let place = behind_line (place_of old) l in
      passed_line functions old text (lines rest) lines_are l is_line ∙ ap (fault_from functions place (suc old.number)) first.2
      ∙ ap (λ (o : Option JobFault). option_map_or (λ fault. Some (suc old.number, fault)) o (fault_from functions (behind place first.0) (suc (suc old.number)) first.1)) (cond-true place.ended (Some Extra) (words_fault functions place (pieces 32 first.0)) ended)

  pub nothing_behind_last : (behind_line (place_of old) l).ended ≡ true → length rest ≡ 0 → fault_left functions old ≡ None
  nothing_behind_last ended none =
      let place = behind_line (place_of old) l in
      passed_line functions old text (lines rest) lines_are l is_line ∙ ap (fault_from functions place (suc old.number)) (no_line rest none) ∙ cond-true place.ended None (Some (suc old.number, Missing)) ended

  module _ (new : JobLines) (rest_is : new.rest.now ≡ rest) (number : new.number ≡ suc old.number) (place : place_of new ≡ behind_line (place_of old) l) where
    pub same_fault : fault_left functions old ≡ fault_left functions new
    same_fault =
        passed_line functions old text (lines rest) lines_are l is_line ∙ ap (λ p. fault_from functions p (suc old.number) (lines rest)) (sym place)
        ∙ ap (λ n. fault_from functions (place_of new) n (lines rest)) (sym number) ∙ ap (λ r. fault_from functions (place_of new) new.number (lines r)) (sym rest_is)

  pub takes : (new : JobLines) → new.rest.now ≡ rest → length rest < length old.rest.now → LinesGoOn functions old new l → TakesLine functions old new l
  takes new rest_is shorter goes = record {
    text = text;
    lines_are = lines_are ∙ ap (λ r. text ∷ lines r) (sym rest_is);
    is_line = is_line;
    goes_on = goes;
    shorter = subst (λ r. length r < length old.rest.now) (sym rest_is) shorter;
  }

pub by_any_words : (functions : Functions) (reader : JobLines) (text : List ℕ) (words : List (List ℕ)) (r : Result Line JobFault) → pieces 32 text ≡ words
    → IfOk r (λ l. (all : Functions) → IsLine all (place_of reader) l (line_of words)) → IfErr r (λ kind. words_fault functions (place_of reader) words ≡ Some kind)
    → MatchResult r (λ l. IsLine functions (place_of reader) l text) (λ kind. words_fault functions (place_of reader) (pieces 32 text) ≡ Some kind)
by_any_words functions reader text words (Ok l) words_are ok err = by_words functions reader text words (Ok l) words_are (ok functions) err
by_any_words functions reader text words (Err kind) words_are ok err = by_words functions reader text words (Err kind) words_are ok err
