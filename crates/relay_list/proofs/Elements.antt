-- What a read past the end of a list of records stands for.
use Rattle.bag.specs.declared.Relay.{Relay}

abbrev pub blank : Relay
blank = record { view = record { 0 = 0 }; bucket = 0; order = 0; block = record { 0 = 0 }; key = record { 0 = 0 } }
