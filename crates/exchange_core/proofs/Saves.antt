-- Which save of a channel is open, and which were opened.
use Rattle.std.proofs.Common.{◌≡◌, ℕ, eqb, true, false, true≢false, ◌||◌, List, [], ◌∷◌, Option, Some, None, refl, sym, ap, ◌∙◌}
use Rattle.std.specs.Cmp.{unsigned_tied}
use Rattle.std.specs.List.{list_any}
use Rattle.std.specs.BTreeMap.{is_at}
use Rattle.std.specs.Option.{option_map, option_eq}
use Rattle.std.specs.Ordering.{nat_cmp}
use Rattle.std.proofs.lemmas.Bool.{eqb-true, eqb-false}
use Rattle.input_channel.specs.States.{ChannelState, OpenSave, IsOpen}
use Rattle.script_text.specs.declared.reply.Reply.{Reply}
use Rattle.script_text.specs.declared.reply.Reply.TheVariants as replies
use Rattle.exchange_world.specs.Lanes.{Lane, has_number}
use Rattle.exchange_world.specs.Worlds.{World, lane_of}
use Rattle.exchange_world.specs.Steps.{tells_saved}
use Rattle.exchange_core.proofs.InletSteps.{tells_none, tells_other}

-- a set's test is the test of the world
pub has_number_is : (k : ℕ) (ns : List ℕ) → list_any (is_at (nat_cmp k)) ns ≡ has_number k ns
has_number_is k [] = refl
has_number_is k (n ∷ ns) = ap (λ b. b || list_any (is_at (nat_cmp k)) ns) (unsigned_tied k n) ∙ ap (λ b. eqb k n || b) (has_number_is k ns)

abbrev pub number_in : Option OpenSave → Option ℕ
number_in save = option_map (λ (s : OpenSave). s.number) save

-- the open save is the one that is asked for
pub is_open : (s : ChannelState) (k : ℕ) (save : Option OpenSave) → s.save ≡ save → option_eq eqb (number_in save) (Some k) ≡ true → IsOpen s k
is_open s k None is same = absurd (true≢false (sym same))
is_open s k (Some save) is same = (save, is, eqb-true save.number k same)

-- none is, or another one
pub tells_refused : (w : World) (c k : ℕ) (l : Lane) (here : lane_of w c ≡ l) (save : Option OpenSave) → l.inbox.save ≡ save → option_eq eqb (number_in save) (Some k) ≡ false → tells_saved w c k ≡ (w, replies.Refused)
tells_refused w c k l here None is other = tells_none w c k l here is
tells_refused w c k l here (Some save) is other = tells_other w c k l here save is (eqb-false save.number k other)
