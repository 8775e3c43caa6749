use Rattle.std.proofs.Common.{◌≡◌, ◌++◌, length, ap, ◌∙◌, arith}
use Rattle.std.proofs.lemmas.List.{length-reverse}
use Rattle.std.specs.Option.{option_to_list}
use lib.ListN.{get_elem?}
use Rattle.segment_pool.proofs.Dealt.{front_of, first_gathered, at_all}
use Rattle.segment_pool.proofs.places.gathered.Goals as goal

pub add-requires : goal.add-requires
add-requires c =
    let passes = c.args.passes.items in let first = c.unwrap-first.result in let rest = c.pop.new.self.items in
    let is = front_of passes c.reverse_all.new.items.items rest first c.reverse_all.ensures.items (c.pop.ensures.items ∙ ap (λ o. rest ++ option_to_list o) c.unwrap-first.ensures) in
    let places = c.requires.places first (ap (λ l. get_elem? l 0) is) in let some = c.requires.some in omega arith

pub loop-pass-init : goal.loop-pass-init
loop-pass-init c =
    let passes = c.args.passes.items in let first = c.unwrap-first.result in let rest = c.pop.new.self.items in
    let is = front_of passes c.reverse_all.new.items.items rest first c.reverse_all.ensures.items (c.pop.ensures.items ∙ ap (λ o. rest ++ option_to_list o) c.unwrap-first.ensures) in
    let at = ap (λ l. get_elem? l 0) is in let places = c.requires.places first at in let count = ap length is in let same = length-reverse rest in let room = c.add.ensures.room in record {
      all = first_gathered passes rest first c.add.new.items.items is (at_all (λ p. length p.places.items ≡ 0) passes c.requires.new 0 first at) c.add.ensures.items;
      room = omega arith;
    }
