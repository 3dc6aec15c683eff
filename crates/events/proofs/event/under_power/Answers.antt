-- `under_power` meets its contract, event by event: by the requirement it is no sample. Assumes nothing.
use mathlib.Core.Path.{refl}
use Rattle.events.proofs.OtherEventLaws.{gives_on, gives_off, gives_expected}
use Rattle.events.proofs.event.under_power.Goals as goal

pub returns-in-SpiPowerOn : goal.returns-in-SpiPowerOn
returns-in-SpiPowerOn c = gives_on c.args.model c.args.present c.requires.1 c.args.event c.in-SpiPowerOn.is

pub returns-in-PowerOff : goal.returns-in-PowerOff
returns-in-PowerOff c =
    rw (c.power_off.ensures, c.in-PowerOff.is, c.requires.0) (gives_off c.args.model c.args.present _ refl c.requires.1)

pub returns-in-Expected : goal.returns-in-Expected
returns-in-Expected c =
    rw (c.expect.ensures, c.in-Expected.is) (gives_expected c.args.model c.args.present _ refl c.requires.1 _)
