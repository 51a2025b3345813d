use Rattle.shelf_formed.proofs.Opening.{front_is, front_yes, front_no}
use Rattle.shelf_formed.proofs.front.Goals as goal

pub returns-then-head_formed-types_formed : goal.returns-then-head_formed-types_formed
returns-then-head_formed-types_formed c = let s = c.args.shelf.now in
    let types = c.count-types.ensures in
    let elements = c.all_elements-elements.ensures in
    front_yes s types elements (front_is s c.head_formed.ensures types c.types_formed.ensures elements c.if-head_formed-types_formed.true)

pub returns-else-head_formed-types_formed : goal.returns-else-head_formed-types_formed
returns-else-head_formed-types_formed c = let s = c.args.shelf.now in
    let types = c.count-types.ensures in
    let elements = c.all_elements-elements.ensures in
    front_no s (front_is s c.head_formed.ensures types c.types_formed.ensures elements c.if-head_formed-types_formed.false)
