-- A table of one row.
use Rattle.std.proofs.Common.{◌≡◌, ℕ, List, [], ◌∷◌, sym, ap, subst, ◌∙◌}
use Rattle.std.specs.Prelude.{All}
use Rattle.std.specs.FinMap.{empty, entries, insert, entries-insert}
use Rattle.std.specs.FinMap.Entries.{put as put_entry}
use Rattle.std.proofs.lemmas.Cmp.{nat_list_cmp_total}
use Rattle.std.proofs.lemmas.List.Elements.{All-from_recursion}
use Rattle.flow_defs.specs.Records.{IsShort}
use Rattle.flow_defs.specs.Tables.{Values, key_cmp}
use Rattle.plain_machine.specs.Images.{HasShortKeys}
use Rattle.plain_machine.proofs.KeySums.{entries-empty}

abbrev HasShortKey : List ℕ × ℕ → Type 0
HasShortKey row = IsShort row.0

one_row : (key : List ℕ) (value : ℕ) → entries {X = ℕ} {R = key_cmp} (insert empty key value) ≡ (key, value) ∷ []
one_row key value = entries-insert nat_list_cmp_total empty key value ∙ ap (put_entry key_cmp key value) entries-empty

-- it was set in a table of none
pub one_short : (none table : Values) (key : List ℕ) (value : ℕ) → none ≡ empty → table ≡ insert none key value → IsShort key → HasShortKeys table
one_short none table key value new is short =
    subst HasShortKeys (sym (is ∙ ap (λ (t : Values). insert t key value) new)) (subst (All HasShortKey) (sym (one_row key value)) (All-from_recursion HasShortKey ((key, value) ∷ []) (short, tt)))
