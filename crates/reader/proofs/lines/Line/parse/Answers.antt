-- Each turn parts off one word. Assumes nothing.
use Rattle.std.proofs.Common.{map, ap, ◌∙◌}
use Rattle.std.specs.Str.Iter.{split_whitespace_rest}
use Rattle.std.proofs.lemmas.List.{map_push}
use Rattle.reader.proofs.Parsing.{none_parsed, one_byte, one_other, all_parsed, first_of, parsed, not_parsed}
use Rattle.reader.proofs.lines.Line.parse.Goals as goal

pub loop-word-init : goal.loop-word-init
loop-word-init c =
    let whole = ap split_whitespace_rest c.into_iter-word-iterator.ensures.into_iter_gives ∙ c.split_whitespace-word-items.ensures.rest in
    rw (whole, c.new-bytes.ensures.items, c.new-others.ensures.items) (none_parsed _)

pub loop-word-preserved-in-Continue-1 : goal.loop-word-preserved-in-Continue-1
loop-word-preserved-in-Continue-1 c =
    let first = first_of _ c.in-Some.word.now _ c.in-Some.ensures.steps in
    one_byte c.loop-word.invariant first (parsed _ _ c.in-Ok.ensures.value.0) c.in_ok-push-in-Ok.ensures.items

pub loop-word-preserved : goal.loop-word-preserved
loop-word-preserved c =
    let first = first_of _ c.in-Some.word.now _ c.in-Some.ensures.steps in
    one_other c.loop-word.invariant first (not_parsed _ c.in-Err.ensures.value.0) (ap (map (λ x. x.now)) c.in_ok-push-in-Err.ensures.items ∙ map_push (λ x. x.now) _ _)

pub returns : goal.returns
returns c = all_parsed c.loop-word.invariant c.in-None.ensures.steps.1
