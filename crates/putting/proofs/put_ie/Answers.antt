-- `put_ie` writes by the form.
-- Each arm names it; the source matters for a half octet alone.
use Rattle.definitions.specs.Values.{fits}
use Rattle.putting.specs.Puts.{writable, puts}
use Rattle.putting.proofs.put_ie.Goals as goal

pub returns-in-Fixed : goal.returns-in-Fixed
unfolding fits writable puts
returns-in-Fixed c = rw c.in-Fixed.is c.put_fixed.ensures

pub returns-in-Tlv : goal.returns-in-Tlv
unfolding fits writable puts
returns-in-Tlv c = rw c.in-Tlv.is c.put_tlv.ensures

pub returns-in-TlvE : goal.returns-in-TlvE
unfolding fits writable puts
returns-in-TlvE c = rw c.in-TlvE.is c.put_tlve.ensures
