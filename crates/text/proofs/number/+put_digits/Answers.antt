-- `text::number::put_digits` meets its contract: by the rules of `Digits`, for one digit and for more.
use Rattle.text.proofs.Digits.{digits_one, digits_more}
use Rattle.text.proofs.number.+put_digits.Goals as goal

pub returns-then-n-lt10 : goal.returns-then-n-lt10
returns-then-n-lt10 t c = digits_one c.if-n-lt10.true c.put_byte.ensures

pub returns : goal.returns
returns t c = digits_more c.if-n-lt10.false c.put_digits-next.ensures c.put_byte-2.ensures
