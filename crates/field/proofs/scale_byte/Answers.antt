-- Below zero 256 is added (Scale.antt).
use Rattle.field.proofs.Scale.{scale-wider, more-fits, more_byte, more-is, same_byte, same-is}
use Rattle.field.proofs.scale_byte.Goals as goal

pub overflow_cast-result : goal.overflow_cast-result
overflow_cast-result c = scale-wider c.args.scale (record { sfits = c.ranges.scale.sfits })

pub overflow_add-result : goal.overflow_add-result
overflow_add-result c = more-fits c.args.scale c.ranges.scale c.if-scale-lt0.true

pub overflow_cast-result-then-scale-lt0 : goal.overflow_cast-result-then-scale-lt0
overflow_cast-result-then-scale-lt0 c = more_byte c.args.scale c.ranges.scale c.if-scale-lt0.true

pub returns-then-scale-lt0 : goal.returns-then-scale-lt0
returns-then-scale-lt0 c = more-is c.args.scale c.ranges.scale c.if-scale-lt0.true

pub overflow_cast-result-2 : goal.overflow_cast-result-2
overflow_cast-result-2 c = same_byte c.args.scale c.ranges.scale c.if-scale-lt0.false

pub returns : goal.returns
returns c = same-is c.args.scale c.ranges.scale c.if-scale-lt0.false
